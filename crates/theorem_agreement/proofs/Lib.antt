mod OneVote
mod Resting
mod Outcome
pub mod Invariant
pub mod Histories
