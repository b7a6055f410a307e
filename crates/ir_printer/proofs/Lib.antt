pub mod Appended
pub mod Arguments
