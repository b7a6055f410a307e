pub mod FixedPoints
pub mod Flags
pub mod Laws
pub mod Levels
pub mod Meeting
pub mod Marks
pub mod Walks
