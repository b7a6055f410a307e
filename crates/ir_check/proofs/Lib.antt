pub mod InOrder
pub mod Last
pub mod Room
pub mod Seen
pub mod Sizes
pub mod Steps
