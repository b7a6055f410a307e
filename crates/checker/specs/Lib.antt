pub mod Checked
pub mod Numbering
pub mod Placing
pub mod Reasons
