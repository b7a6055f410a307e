pub mod Slots
pub mod Adding
