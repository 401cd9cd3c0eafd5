pub mod HeaderLemmas
pub mod LineLemmas
