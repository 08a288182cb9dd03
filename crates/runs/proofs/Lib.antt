pub mod Bounded
pub mod Turns
