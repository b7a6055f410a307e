pub mod ByChanges
