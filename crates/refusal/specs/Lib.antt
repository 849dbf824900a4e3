pub mod Refusal
pub mod Codes
