pub mod Framed
pub mod OverCalls
pub mod Standing
pub mod Counts
