-- Automata as values: sets of states, the automaton with what it says and the range of its values, and how the code looks members up.
pub mod Ranges
pub mod Sets
pub mod Automata
pub mod Members
