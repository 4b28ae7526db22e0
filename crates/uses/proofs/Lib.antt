pub mod Granted
pub mod Images
pub mod Kept
pub mod Pages
pub mod Shifts
pub mod Totals
pub mod Uses
