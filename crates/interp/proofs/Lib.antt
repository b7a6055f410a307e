pub mod Adding
pub mod Going
pub mod Mains
pub mod Making
pub mod Stopping
