-- The discovery list, the lag-checking graph, and the walk with slots (01, "The walk").
pub mod Discovery
pub mod LagGraph
pub mod Walks
pub mod Meaning
