-- Laws of checks in order, and of conditions that speak of a file.
pub mod ChecksLaws
pub mod FileRows
