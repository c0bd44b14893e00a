pub mod Layout
pub mod Requirements
pub mod Promises
pub mod Laid
