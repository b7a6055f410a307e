pub mod LiveLemmas
pub mod PathLemmas
pub mod SearchSteps
pub mod Validity
pub mod Wordings
