pub mod EntryLaws
pub mod Examples
pub mod FieldBounds
pub mod FormLaws
pub mod WordLaws
