pub mod BothEnds
pub mod Exchange
