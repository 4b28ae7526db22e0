pub mod Recorded
pub mod Recordings
pub mod Session
