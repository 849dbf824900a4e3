pub mod Booleans
pub mod Membership
pub mod Nodes
pub mod Sizes
pub mod Quorum
pub mod Machine
pub mod Dropping
