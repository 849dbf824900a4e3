pub mod After
pub mod Turns
