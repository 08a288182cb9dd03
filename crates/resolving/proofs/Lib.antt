pub mod Behind
pub mod Consumed
pub mod Marking
pub mod Splitting
pub mod Found
pub mod Cutting
pub mod Sets
pub mod Ends
