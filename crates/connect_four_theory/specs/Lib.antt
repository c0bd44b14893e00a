pub mod Stones
pub mod Game
pub mod Facts
