pub mod Sound
pub mod Dead
pub mod Statuses
