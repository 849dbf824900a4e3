pub mod Kept
pub mod There
