pub mod Building
pub mod Transformed
