pub mod Stack
pub mod View
pub mod Bounds
pub mod Joining
