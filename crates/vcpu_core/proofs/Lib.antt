pub mod Taking
pub mod Settling
pub mod Few
