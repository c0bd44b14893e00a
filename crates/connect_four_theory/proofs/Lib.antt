pub mod Bits
pub mod Lines
pub mod Falls
pub mod Moves
pub mod Facts
