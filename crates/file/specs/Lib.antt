-- How the code holds a step of the reading.
pub mod Taking
