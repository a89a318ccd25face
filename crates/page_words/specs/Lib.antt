pub mod Told
pub mod Programs
pub mod Dialogue
pub mod Recording
