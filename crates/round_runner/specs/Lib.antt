pub mod Pages
pub mod Standing
pub mod Ran
pub mod Started
