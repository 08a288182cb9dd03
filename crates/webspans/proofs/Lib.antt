pub mod Reports
pub mod Worked
