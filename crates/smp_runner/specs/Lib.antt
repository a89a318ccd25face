pub mod Working
pub mod Standing
pub mod Jobs
pub mod Ran
