pub mod CutLaws
pub mod FitLaws
pub mod LineLaws
