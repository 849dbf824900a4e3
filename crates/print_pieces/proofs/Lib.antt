pub mod Windows
pub mod Following
pub mod Giving
