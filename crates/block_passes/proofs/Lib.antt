pub mod ChainLemmas
pub mod StepLemmas
