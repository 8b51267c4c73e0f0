-- Laws of the numbers and of the calls on an entry's bytes.
pub mod EntryCallLaws
pub mod BytesDemand1
pub mod ByteDemand
