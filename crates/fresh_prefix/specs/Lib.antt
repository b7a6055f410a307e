pub mod Missing
pub mod Prefixes
