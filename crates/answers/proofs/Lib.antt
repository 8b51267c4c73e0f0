-- The table of contain, and demands 1 and 2.
pub mod FileRows
pub mod WalkRows
pub mod ContainTable
pub mod ContainLeaves
pub mod ContainAnswers
pub mod DifferenceWords
pub mod ContainTheorem
pub mod ContainDemand
