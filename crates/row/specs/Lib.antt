pub mod Row
pub mod Gathered
