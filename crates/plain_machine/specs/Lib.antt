pub mod Plain
pub mod Ends
pub mod Single
pub mod Wired
pub mod Standing
pub mod Ran
