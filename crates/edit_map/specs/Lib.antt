pub mod Edits
pub mod Laws
pub mod Entries
pub mod View
