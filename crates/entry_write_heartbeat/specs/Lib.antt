pub mod Heartbeats
