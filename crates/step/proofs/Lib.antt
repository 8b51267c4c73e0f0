-- How the code steps the counters.
pub mod Largest
pub mod MaskRows
pub mod PresentStates
pub mod SteppedBytes
pub mod Steps
