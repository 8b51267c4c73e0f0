-- Laws of classes of equal counters.
pub mod Leaders
pub mod ListedStates
pub mod Appended
pub mod Words
