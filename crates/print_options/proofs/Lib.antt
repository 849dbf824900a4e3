pub mod Asking
pub mod Worked
