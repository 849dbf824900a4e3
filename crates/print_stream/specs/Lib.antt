pub mod Stream
pub mod Chunks
