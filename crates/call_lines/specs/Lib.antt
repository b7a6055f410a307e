pub mod Ending
pub mod Lines
pub mod Reasons
pub mod Refused
pub mod RefusedProfile
