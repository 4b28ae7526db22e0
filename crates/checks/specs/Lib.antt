pub mod Holds
pub mod Reached
pub mod Refusals
pub mod Shifts
