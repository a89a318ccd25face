pub mod Cleared
pub mod Following
pub mod Labels
pub mod Marked
pub mod Notes
pub mod Rules
pub mod TwoWorlds
pub mod Worlds
