-- Laws of Hanoi texts: the reader is decided by the grammar and the faults, the automaton is the one that is described, and what the call answers.
pub mod ReadSteps
pub mod Forward
pub mod Cases
pub mod Says
pub mod TokensRead
pub mod HeaderRead
pub mod PartRead
pub mod Decided
pub mod Computed
pub mod InBytes
pub mod EdgeLetters
pub mod Described
pub mod WellFormed
pub mod Undeclared
pub mod HanoiCases
pub mod HanoiTable
pub mod HanoiTheorem
