pub mod KeptRanges
pub mod RangeLaws
pub mod RangeSearch
