pub mod ValueLemmas
pub mod ListedLemmas
