pub mod Phase
pub mod State
pub mod Running
pub mod Resuming
pub mod Few
