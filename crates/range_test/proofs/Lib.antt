-- Laws of words, of tests and of sums over a range.
pub mod OverRanges
pub mod Words
