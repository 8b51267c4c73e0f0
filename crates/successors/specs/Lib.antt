-- The contracts of the step on a letter.
pub mod Rules
pub mod Targets
pub mod Steps
