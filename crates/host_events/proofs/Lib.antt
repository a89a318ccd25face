pub mod Serving
pub mod Blocks
pub mod Keeping
pub mod Replies
