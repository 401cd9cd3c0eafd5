pub mod ForestLemmas
pub mod SearchLemmas
pub mod TextLemmas
