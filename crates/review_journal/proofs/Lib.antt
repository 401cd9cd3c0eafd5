pub mod PlaceLemmas
pub mod AgainLemmas
pub mod ListLemmas
pub mod KeptFacts
