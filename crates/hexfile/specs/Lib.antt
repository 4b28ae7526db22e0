pub mod Accounted
pub mod Examples
pub mod Record
pub mod Restored
pub mod Text
pub mod Written
