pub mod Numbers
pub mod Quoting
pub mod Scripting
pub mod NumbersBack
pub mod QuotesBack
pub mod ReadBack
