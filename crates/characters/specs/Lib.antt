pub mod CharacterExamples
pub mod CharacterLists
pub mod Utf8
pub mod WhiteSpace
pub mod Widths
