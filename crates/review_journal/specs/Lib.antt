pub mod Verdict
pub mod Places
pub mod Rows
pub mod Row
pub mod Batch
pub mod Reading
pub mod Kept
pub mod DayLaws
