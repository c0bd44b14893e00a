pub mod TwoSides
