pub mod Sets
pub mod Quorum
