pub mod Examples
pub mod Lease
pub mod Windows
