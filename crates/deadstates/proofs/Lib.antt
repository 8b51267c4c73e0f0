-- The computed set has exactly the dead states.
pub mod DeadRight
pub mod DeadSets
