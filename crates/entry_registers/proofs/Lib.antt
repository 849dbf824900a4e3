pub mod InPlace
pub mod Stepping
