pub mod Plans
pub mod Machine
