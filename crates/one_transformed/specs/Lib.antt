pub mod Numberings
pub mod Laws
