-- Laws of the header.
pub mod ItemLaws
