-- Hanoi texts (02, S-2): words, descriptions, the reader, the grammar, the first fault, the automaton, and the call that writes it.
pub mod Numbers
pub mod Words
pub mod Descriptions
pub mod Reading
pub mod Grammar
pub mod Faults
pub mod Meaning
pub mod Hanoi
pub mod HanoiTable
pub mod HanoiDemand
