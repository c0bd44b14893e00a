pub mod Turns
pub mod Games
pub mod Calls
pub mod History
pub mod Judging
pub mod Promises
