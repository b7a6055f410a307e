pub mod Building
pub mod Graph
pub mod Numbers
