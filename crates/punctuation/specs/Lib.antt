pub mod HighScalars
pub mod KindExamples
pub mod Kinds
pub mod RangeLists
pub mod Sets
pub mod Shown
