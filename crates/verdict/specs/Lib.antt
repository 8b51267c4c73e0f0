-- The verdict as the code holds it: sets and pairs of sets as words.
pub mod Words
