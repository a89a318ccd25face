pub mod Meeting
pub mod Talking
pub mod Visiting
pub mod Seating
pub mod Starting
