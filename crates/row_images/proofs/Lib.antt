pub mod Images
pub mod Walks
