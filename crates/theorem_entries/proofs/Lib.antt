pub mod Images
pub mod Rows
pub mod There
