pub mod Puts
pub mod Turns
pub mod Copied
pub mod Outcomes
