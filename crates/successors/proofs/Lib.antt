-- Laws of the successors on a letter.
pub mod LetterSteps
