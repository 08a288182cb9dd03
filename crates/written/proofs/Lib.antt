pub mod Computed
pub mod Groups
pub mod LineEnds
pub mod Placed
pub mod Resolved
pub mod SavedLists
pub mod Scans
pub mod Sizes
