-- Laws of the discovery list, and the theorem that the walk decides containment.
pub mod Discoveries
pub mod Capacity
pub mod Unlisted
pub mod Parents
pub mod DiscoveryLaws
pub mod Words
pub mod Distinct
pub mod CounterSteps
pub mod Counters
pub mod CounterMeaning
pub mod Paths
pub mod VertexRanges
pub mod WalkTheorem
pub mod ListExists
pub mod WordBuffers
pub mod WorkBuffers
