pub mod Values
pub mod Limits
pub mod Outputs
pub mod Answering
pub mod Endings
pub mod Grammar
pub mod SmpEndings
