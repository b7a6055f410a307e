pub mod Lists
pub mod Numbering
pub mod Readings
pub mod Alike
pub mod Moving
pub mod Whole
