pub mod Silence
pub mod Founder
