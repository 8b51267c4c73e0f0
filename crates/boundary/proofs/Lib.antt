-- Laws of an entry's bytes; numbers fit 64 bits and tell the answer.
pub mod EntryBytes
pub mod NumberLaws
pub mod AnswerNumbers
pub mod ContainNumber
pub mod OutcomeSizes
pub mod WriteNumber
