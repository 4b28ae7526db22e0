pub mod Exported
pub mod Meanings
