pub mod Days
pub mod Written
pub mod InitialBytes
pub mod Initials
pub mod Canons
pub mod CanonTexts
