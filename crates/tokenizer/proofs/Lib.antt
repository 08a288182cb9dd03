pub mod Pairs
pub mod Seams
pub mod Stacks
