pub mod ReducedLemmas
pub mod BySets
pub mod Along
pub mod Pushing
pub mod Bounds
pub mod Growing
