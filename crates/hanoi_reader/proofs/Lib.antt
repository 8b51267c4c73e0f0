-- Laws of the reader.
pub mod LetterLaws
pub mod PartLaws
pub mod ReadLaws
