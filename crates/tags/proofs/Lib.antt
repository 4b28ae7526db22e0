pub mod RetagLaws
pub mod TagLaws
