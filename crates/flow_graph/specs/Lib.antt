pub mod Paths
pub mod Searching
pub mod Slots
