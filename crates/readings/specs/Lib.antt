pub mod Lines
pub mod Plans
pub mod Readings
