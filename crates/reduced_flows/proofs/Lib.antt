pub mod Merged
pub mod Named
pub mod Along
pub mod Splitting
pub mod Maximum
pub mod Flagged
pub mod Whole
