pub mod AccountedLaws
pub mod DataLaws
pub mod DigitLaws
pub mod Examples
pub mod LineLaws
pub mod ReadLaws
pub mod WrittenLaws
