pub mod Firsts
pub mod Rooms
pub mod Runs
pub mod Walks
pub mod Words
