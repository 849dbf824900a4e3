pub mod Grouped
pub mod Tallied
