pub mod Above
pub mod Examples
pub mod Recorded
