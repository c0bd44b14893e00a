pub mod Faults
pub mod Contents
pub mod Reading
