pub mod Carried
mod Hearing
