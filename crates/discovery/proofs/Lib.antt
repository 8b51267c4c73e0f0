-- Laws of the represented walk, of the loops that go on with it, and of the states of a word taken out one after another.
pub mod LeastStates
pub mod RepresentedSlots
pub mod FinalVertices
pub mod FoldLoops
pub mod LeftTargets
