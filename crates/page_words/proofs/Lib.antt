pub mod Making
pub mod Same
pub mod Dialogues
pub mod Reading
pub mod Keeping
pub mod Records
