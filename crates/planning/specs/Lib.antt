pub mod Blocks
pub mod Marking
pub mod Moving
pub mod PlanOf
