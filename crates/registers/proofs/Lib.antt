pub mod Bits
pub mod Quiet
pub mod Blocks
pub mod Written
pub mod Found
pub mod Formed
pub mod Series
pub mod Run
