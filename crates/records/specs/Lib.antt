-- How the reader moves on.
pub mod Readers
