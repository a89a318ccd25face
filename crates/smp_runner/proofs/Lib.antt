pub mod Coming
pub mod Working
pub mod Running
pub mod Gathering
pub mod Closing
