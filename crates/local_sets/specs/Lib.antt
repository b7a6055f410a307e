pub mod Blocks
pub mod Counting
pub mod Heads
pub mod Passing
pub mod Reaching
pub mod Stepping
