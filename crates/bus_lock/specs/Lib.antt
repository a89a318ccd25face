pub mod Lists
pub mod Views
pub mod Rule
pub mod Parts
pub mod Plays
pub mod Serving
pub mod Turns
pub mod Carried
