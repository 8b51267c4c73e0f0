-- An entry as bytes, and the numbers of the answers.
pub mod Bytes
pub mod Numbers
