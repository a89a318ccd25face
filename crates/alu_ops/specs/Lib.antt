pub mod Condition
pub mod Number
pub mod Outcome
pub mod Table
