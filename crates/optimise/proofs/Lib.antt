mod Chosen
pub mod Counted
mod Gathered
mod Growing
mod Showing
pub mod Sound
