pub mod Failing
mod Worked
pub mod Rows
pub mod Arrays
pub mod Votes
pub mod Undisturbed
pub mod States
pub mod Counting
pub mod Slots
pub mod Own
pub mod Modes
pub mod Entering
