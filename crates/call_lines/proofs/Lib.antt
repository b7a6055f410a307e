pub mod Excerpts
mod FourPuts
