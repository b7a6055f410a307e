pub mod Acts
pub mod Events
pub mod Meaning
pub mod Runs
