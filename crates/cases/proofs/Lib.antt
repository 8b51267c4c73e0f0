-- The proved cases.
pub mod ProvedCases
pub mod NoSimulation
pub mod Unrefused
