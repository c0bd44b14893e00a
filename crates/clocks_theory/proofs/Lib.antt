pub mod Runs
pub mod Bounds
pub mod Accounts
pub mod Layers
