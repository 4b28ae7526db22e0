pub mod Answers
pub mod Premises
pub mod Values
