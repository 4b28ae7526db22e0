pub mod InLaws
pub mod OutLaws
