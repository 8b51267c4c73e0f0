-- What is read to the front of a buffer.
pub mod Counts
