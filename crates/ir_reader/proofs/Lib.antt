pub mod One
pub mod Back
pub mod Told
