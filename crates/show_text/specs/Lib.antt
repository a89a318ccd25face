pub mod Digits
pub mod Info
pub mod Msr
pub mod Number
pub mod Page
