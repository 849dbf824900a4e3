pub mod Units
pub mod Faulty
pub mod Carried
pub mod Recorded
pub mod Run
