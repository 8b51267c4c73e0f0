-- Laws of the fixed form, and of the call that writes it.
pub mod Ascending
pub mod Items
pub mod FixedFormTheorem
pub mod Lengths
pub mod Longest
pub mod FileLength
pub mod WriteCases
pub mod WriteTable
pub mod WriteTheorem
