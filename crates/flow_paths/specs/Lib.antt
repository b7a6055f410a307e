pub mod Inevitable
pub mod Marks
pub mod Paths
pub mod Searching
pub mod Spreads
pub mod Stretches
