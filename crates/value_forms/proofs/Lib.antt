pub mod DayLemmas
pub mod TextLemmas
pub mod ReadableLemmas
