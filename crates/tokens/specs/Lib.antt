pub mod ByFormula
pub mod Permissions
pub mod Token
