-- Steps that are kept.
pub mod Kept
