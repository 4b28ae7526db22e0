pub mod ChildLaws
pub mod CloneLaws
pub mod DeriveLaws
pub mod ExecuteOnlyLaws
