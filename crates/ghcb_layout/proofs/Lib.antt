pub mod OneBit
pub mod Table
pub mod PageBytes
