pub mod Ascii
pub mod Bytes
pub mod Lent
pub mod Notes
pub mod Places
pub mod Refusals
pub mod Shown
