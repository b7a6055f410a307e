pub mod Adding
pub mod Laid
mod Placing
mod Unique
