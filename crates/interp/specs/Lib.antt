pub mod Follows
pub mod Main
pub mod Run
pub mod Tallies
pub mod TallyOf
