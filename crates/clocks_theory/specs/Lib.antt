pub mod Movements
pub mod Kinds
pub mod Laws
pub mod Samples
