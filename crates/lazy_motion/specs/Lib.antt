pub mod Laws
pub mod Motion
pub mod Optimality
pub mod Steps
