pub mod Choice
pub mod Choices
pub mod Optimised
pub mod Placing
pub mod Written
