pub mod End
pub mod Trace
