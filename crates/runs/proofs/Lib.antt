-- Laws of runs, the lag as a number, and that containment keeps lasso words.
pub mod Runs
pub mod LagSteps
pub mod ShiftedPositions
pub mod Positions
pub mod LagNumber
pub mod FollowedBy
pub mod Contained
pub mod Simulation
pub mod LassoRuns
pub mod Pigeonhole
pub mod VisitCounts
pub mod Chains
pub mod KeepsLassos
