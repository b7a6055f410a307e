pub mod Bounds
mod Signed
mod Trapping
