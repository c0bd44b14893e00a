pub mod Seen
pub mod Near
