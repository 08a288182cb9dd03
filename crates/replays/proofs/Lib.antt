pub mod Bare
pub mod Listed
pub mod Played
