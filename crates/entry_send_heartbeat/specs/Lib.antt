pub mod Beating
