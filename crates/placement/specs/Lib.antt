pub mod Costs
pub mod Marked
pub mod Marking
pub mod Placements
