pub mod JudgeLaws
pub mod KindLaws
pub mod LineLaws
pub mod RecordLaws
pub mod StoreLaws
pub mod ValueLaws
