mod Accepting
mod CheckEndings
mod CheckLemmas
pub mod Endings
pub mod Limits
pub mod OptEndings
pub mod OptLemmas
mod ReadLemmas
pub mod Mains
pub mod ReportEndings
pub mod Rows
pub mod RunEndings
pub mod RunLemmas
pub mod Shapes
