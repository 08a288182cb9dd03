pub mod Pieces
pub mod Findings
