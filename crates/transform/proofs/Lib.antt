pub mod Alone
pub mod Wholes
