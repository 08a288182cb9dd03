pub mod CharacterLists
pub mod CharacterWidths
pub mod Characters
pub mod InRanges
