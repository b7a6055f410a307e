pub mod Ascending
mod Growing
