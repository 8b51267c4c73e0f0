-- Laws of bytes written into a lent buffer.
pub mod Buffers
pub mod Cursors
pub mod Left
