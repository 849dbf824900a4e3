pub mod Calls
pub mod There
