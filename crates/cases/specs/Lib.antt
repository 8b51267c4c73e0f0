-- The worked automata, and the cases that are proved (01, "Worked automata").
pub mod Worked
pub mod Cases
