pub mod Applied
pub mod Built
pub mod InBlocks
pub mod Motion
pub mod Renamed
