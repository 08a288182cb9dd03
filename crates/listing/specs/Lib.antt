pub mod Forms
pub mod Notes
pub mod Output
pub mod Stops
