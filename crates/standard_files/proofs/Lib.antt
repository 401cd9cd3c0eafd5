pub mod FileSteps
pub mod SortFacts
pub mod TakingLemmas
pub mod SideLemmas
pub mod KnownLemmas
