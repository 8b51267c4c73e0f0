-- Laws and theorems about automata.
pub mod Booleans
pub mod Ranges
pub mod Members
pub mod Transitions
pub mod InRange
pub mod Bits
pub mod SetNumbers
pub mod LeastMembers
pub mod Counts
pub mod Lists
pub mod EqualAutomata
pub mod Rank
