pub mod Events
pub mod Expressions
pub mod Kept
pub mod Tables
pub mod Tracking
pub mod Walking
