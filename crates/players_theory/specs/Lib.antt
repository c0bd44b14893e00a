pub mod Scripts
pub mod Steps
