pub mod Op
pub mod Value
