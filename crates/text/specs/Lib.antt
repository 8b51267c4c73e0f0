-- Numbers and letters as text.
pub mod Text
