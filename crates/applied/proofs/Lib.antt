pub mod Fitting
pub mod Loads
pub mod Living
pub mod Steps
pub mod Agreeing
pub mod Running
pub mod Traps
pub mod Trapping
pub mod Chains
pub mod Pairs
pub mod Applying
pub mod OneTrap
pub mod Building
pub mod Pinning
mod Example
pub mod WithinBlocks
