-- How the code of the walk keeps the slots, their index and the steps that are kept.
pub mod ExpandLoops
pub mod KeptLoops
pub mod FirstVertices
pub mod FinalWords
