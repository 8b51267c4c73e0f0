-- Laws of the conditions.
pub mod Letters
