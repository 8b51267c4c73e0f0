-- Laws of tokens.
pub mod Runs
pub mod LexicalLaws
pub mod Words
pub mod Numbers
pub mod Places
pub mod Scanners
