pub mod Short
mod Taking
pub mod Chunks
