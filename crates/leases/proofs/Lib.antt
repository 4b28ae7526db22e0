pub mod Examples
pub mod JudgeLaws
pub mod Windows
