-- Vertices and slots (01, "The walk").
pub mod Slots
pub mod Bytes
