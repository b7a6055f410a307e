pub mod Numbers
pub mod Whole
pub mod Loops
pub mod Begins
pub mod Places
pub mod Members
pub mod Probes
pub mod Refused
pub mod Spelt
pub mod Spelled
pub mod Sizes
mod Rows
