-- Laws of vertices and slots.
pub mod Vertices
pub mod Compared
pub mod SlotLayout
pub mod Words
