pub mod States
pub mod Decided
