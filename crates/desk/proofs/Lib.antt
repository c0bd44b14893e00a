pub mod Ways
pub mod Walk
