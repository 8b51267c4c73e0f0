-- A file holds what its bytes spell, and is refused for its first fault.
pub mod Stands
pub mod RecordSteps
pub mod FileLaws
pub mod Items
pub mod FileStops
pub mod FileBytes
pub mod FileRefusals
pub mod SetBytes
pub mod AnyOrder
pub mod SmallExamples
