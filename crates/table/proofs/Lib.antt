pub mod Refusals
pub mod Missed
pub mod Laws
pub mod Cursor
