pub mod FindFacts
pub mod ReadFacts
pub mod RowFacts
