pub mod Gomoku
pub mod Search
