pub mod Code
pub mod Fits
pub mod Prof
pub mod Same
pub mod Step
