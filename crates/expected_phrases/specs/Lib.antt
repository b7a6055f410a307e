pub mod Tried
pub mod Expected
