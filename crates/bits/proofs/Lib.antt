pub mod ByteLaws
pub mod ByteLists
pub mod FieldLaws
pub mod PartLaws
pub mod SipLaws
pub mod TestLaws
