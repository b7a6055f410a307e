pub mod Entries
pub mod Certified
pub mod Laws
