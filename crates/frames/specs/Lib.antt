pub mod Written
pub mod Read
pub mod Looked
pub mod Refused
