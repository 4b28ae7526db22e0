pub mod CreateLaws
pub mod ResetLaws
pub mod RevokeLaws
pub mod SegmentLaws
