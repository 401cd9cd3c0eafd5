pub mod Terms
pub mod TermLaws
pub mod Ranges
pub mod Plan
pub mod Within
