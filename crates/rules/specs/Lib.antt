pub mod OneCycle
pub mod Ballots
pub mod Faults
pub mod Reference
pub mod Always
pub mod Examples
