pub mod Flows
