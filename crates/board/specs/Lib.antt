pub mod Windows
pub mod Straight
