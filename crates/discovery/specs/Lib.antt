-- How the code's state stands for a walk.
pub mod Representation
pub mod Lists
