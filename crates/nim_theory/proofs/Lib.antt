pub mod Counts
pub mod Start
