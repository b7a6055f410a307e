pub mod Alike
pub mod ByFrames
pub mod Lockstep
