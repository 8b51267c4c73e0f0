-- How the code holds the header.
pub mod Items
pub mod Headers
