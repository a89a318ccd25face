pub mod Runs
pub mod Along
pub mod Whole
pub mod Asks
pub mod Exactly
pub mod Passing
pub mod Upwards
pub mod Past
