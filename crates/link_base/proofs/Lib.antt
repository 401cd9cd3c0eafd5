pub mod RegionFacts
pub mod RisingFacts
