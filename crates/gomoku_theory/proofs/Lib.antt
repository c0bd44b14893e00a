pub mod Tests
pub mod Lines
pub mod Moves
pub mod Steps
