pub mod Piles
pub mod Taking
