pub mod Path
pub mod Working
pub mod Marking
