-- Runs, and what is said by them: lag, containment, direct simulation, acceptance of lasso words, dead states.
pub mod Runs
pub mod Lag
pub mod Containment
pub mod Lassos
pub mod DeadStates
pub mod Simulation
