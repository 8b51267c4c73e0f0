-- What the answer of contain's walk comes to.
pub mod WalkAnswers
