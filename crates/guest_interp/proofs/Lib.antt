pub mod Ended
pub mod Flagging
pub mod Going
pub mod Guarded
pub mod Paging
pub mod Placing
