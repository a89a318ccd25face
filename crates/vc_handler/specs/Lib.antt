pub mod Accept
pub mod Begin
pub mod ReplyTable
pub mod Version
pub mod Wire
