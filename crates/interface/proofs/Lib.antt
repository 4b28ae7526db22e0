pub mod CallLaws
pub mod PlainLaws
pub mod WordLaws
