pub mod Bounds
pub mod Images
pub mod Sending
pub mod Reading
