pub mod Passing
pub mod Merging
