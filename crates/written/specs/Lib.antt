pub mod FormExamples
pub mod Forms
pub mod Fronts
pub mod Listing
pub mod Named
pub mod Numbers
pub mod SavedLists
pub mod Spans
