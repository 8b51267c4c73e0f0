-- The file (01, "The file"): the layout of records, what a file holds, what it spells, and the faults for which it is refused.
pub mod Numbers
pub mod Marks
pub mod Records
pub mod Writing
pub mod File
pub mod Spelling
pub mod Refusals
