pub mod Calls
pub mod Histories
