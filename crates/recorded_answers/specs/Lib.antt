pub mod Agreement
pub mod Format
pub mod Replays
pub mod Sets
pub mod Tallies
