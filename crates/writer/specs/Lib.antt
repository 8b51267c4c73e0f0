-- The bytes of the fixed form, part by part.
pub mod Parts
