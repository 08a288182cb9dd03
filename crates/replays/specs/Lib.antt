pub mod Plays
pub mod Scribes
