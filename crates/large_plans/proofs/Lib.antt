pub mod Lengths
pub mod Standing
pub mod Counting
pub mod Adding
pub mod Crowded
