-- What is left of a file behind a record, and the cases of a record.
pub mod Rests
pub mod RecordCases
