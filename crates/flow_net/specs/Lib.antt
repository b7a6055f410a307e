pub mod Network
pub mod Levels
pub mod Laws
pub mod Incidence
