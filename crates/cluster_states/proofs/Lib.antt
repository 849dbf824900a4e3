pub mod Deciding
pub mod Whole
