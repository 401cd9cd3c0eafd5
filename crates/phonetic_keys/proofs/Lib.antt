pub mod CarryingLaw
pub mod WalkLemmas
