pub mod Answered
pub mod Turn
pub mod Told
pub mod Live
