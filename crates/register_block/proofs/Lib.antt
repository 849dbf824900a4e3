pub mod Zeros
pub mod Flags
