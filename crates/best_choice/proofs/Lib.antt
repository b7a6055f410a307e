pub mod Ascending
pub mod Written
pub mod Unique
