pub mod Block
pub mod Steps
pub mod Series
