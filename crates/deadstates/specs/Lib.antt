-- The set of dead states, computed (01, "Dead ends").
pub mod DeadEnds
pub mod DeadSets
