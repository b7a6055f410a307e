pub mod ByChanges
pub mod Texts
