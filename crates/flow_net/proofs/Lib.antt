pub mod Sums
pub mod Balance
pub mod Duality
pub mod Loads
pub mod Cuts
pub mod IncidenceSteps
pub mod Visits
