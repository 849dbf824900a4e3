pub mod State
pub mod Image
