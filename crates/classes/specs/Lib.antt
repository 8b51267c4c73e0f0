-- Classes of equal counters, and the index of the slots by them.
pub mod Classes
pub mod Indexes
pub mod Keys
