-- Laws of the verdict's words and tables.
pub mod HalfWords
pub mod WordSets
pub mod WordVerdict
