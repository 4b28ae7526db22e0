pub mod Allotments
pub mod Asked
pub mod Rulings
pub mod Served
