pub mod Rows
pub mod Formed
