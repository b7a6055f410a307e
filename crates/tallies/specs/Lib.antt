pub mod Laws
pub mod Steps
pub mod Sums
pub mod Tallies
