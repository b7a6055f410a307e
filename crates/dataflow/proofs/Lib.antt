pub mod Below
pub mod Ends
pub mod Meeting
pub mod Settling
pub mod Walks
pub mod WrittenBack
