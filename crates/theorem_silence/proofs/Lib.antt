pub mod Silence
pub mod There
pub mod Based
pub mod Founder
