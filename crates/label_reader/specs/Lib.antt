-- How the code answers for a label.
pub mod Truths
