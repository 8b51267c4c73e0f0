-- The computed verdict is the acceptance of lasso words.
pub mod StateSets
pub mod LoopRuns
pub mod VerdictTheorem
