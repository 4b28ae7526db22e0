pub mod ReachLaws
pub mod SettingLaws
pub mod ShiftLaws
pub mod VerdictLaws
