pub mod Lists
pub mod Meaning
