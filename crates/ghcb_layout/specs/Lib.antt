pub mod Address
pub mod Bitmap
pub mod Bytes
pub mod Field
pub mod Protocol
