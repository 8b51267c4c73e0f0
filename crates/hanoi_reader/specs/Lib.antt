-- How the code holds a reading.
pub mod Taking
pub mod Bodies
