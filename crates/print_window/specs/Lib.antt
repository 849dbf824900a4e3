pub mod Window
pub mod Stream
pub mod Chunks
