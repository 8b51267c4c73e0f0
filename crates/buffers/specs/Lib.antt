-- Bytes written into a lent buffer.
pub mod Buffers
pub mod Cursors
