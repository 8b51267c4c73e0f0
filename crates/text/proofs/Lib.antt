-- Laws of numbers and letters as text.
pub mod Decimals
pub mod Digits
pub mod Letters
pub mod Percent
pub mod Examples
