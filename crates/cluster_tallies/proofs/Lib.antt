pub mod Tallies
mod Looking
