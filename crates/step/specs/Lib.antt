-- One step of the counters: the transitions as masks, and what the code makes of them.
pub mod Masks
pub mod Steps
