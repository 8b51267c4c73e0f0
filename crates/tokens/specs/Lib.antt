-- The tokens of a Hanoi text: computed, said, and as the code answers.
pub mod Spelled
pub mod Tokens
pub mod Lexical
pub mod Places
pub mod Scanners
