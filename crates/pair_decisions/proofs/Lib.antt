pub mod ComparatorLemmas
pub mod ListSteps
pub mod FilledRule
pub mod LineLemmas
