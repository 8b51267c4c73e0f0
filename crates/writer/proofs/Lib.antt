-- Laws of the writer: records of members one after another, and the parts of the written file.
pub mod Records
pub mod WrittenParts
pub mod PutFile
pub mod WriteSteps
