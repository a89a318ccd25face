pub mod Blocks
pub mod Histories
