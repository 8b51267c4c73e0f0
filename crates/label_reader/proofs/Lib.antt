-- Laws of the label reader.
pub mod ReadTruths
