pub mod ByFormula
pub mod PermissionLaws
pub mod TokenLaws
