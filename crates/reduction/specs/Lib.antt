pub mod Reduced
pub mod Networks
pub mod BlockArcs
