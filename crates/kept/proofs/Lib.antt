-- Laws of steps that are kept.
pub mod KeptSteps
