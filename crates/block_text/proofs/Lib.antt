pub mod Bounds
pub mod ByPlan
pub mod Registers
pub mod Steps
