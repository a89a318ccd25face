pub mod Append
pub mod FirstSome
pub mod Lines
