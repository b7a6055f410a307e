mod Acting
mod Closing
mod Example
mod Fitting
pub mod Taken
mod Waiting
mod Widths
