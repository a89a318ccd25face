pub mod Again
pub mod Shown
pub mod Bytes
pub mod Back
pub mod Mmio
pub mod Taken
pub mod Agreeing
pub mod Exchanging
