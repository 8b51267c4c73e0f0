-- Laws of the reader.
pub mod LeftAutomata
pub mod RecordParts
pub mod Readings
