pub mod Graphs
pub mod Sets
pub mod Networks
pub mod Best
