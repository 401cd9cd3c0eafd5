pub mod FormLemmas
pub mod LinkLemmas
pub mod StepLemmas
pub mod WrittenLemmas
pub mod RowFacts
