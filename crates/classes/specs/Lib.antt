pub mod Entries
pub mod Tallies
