-- The contracts of the walk's code.
pub mod FinalWord
pub mod Pairs
