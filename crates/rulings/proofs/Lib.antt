pub mod AllotLaws
pub mod RulingLaws
pub mod ServedLaws
