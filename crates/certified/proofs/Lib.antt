pub mod Best
pub mod Modules
