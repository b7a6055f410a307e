pub mod Choices
pub mod Lists
pub mod Whole
mod Fitting
