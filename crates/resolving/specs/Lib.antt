pub mod Places
pub mod Parts
pub mod Ended
pub mod Memory
