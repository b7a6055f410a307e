pub mod Carry
pub mod Find
pub mod Zero
pub mod Phases
pub mod Trail
pub mod Passed
