pub mod Cuts
pub mod Left
pub mod Lines
pub mod States
pub mod Stores
