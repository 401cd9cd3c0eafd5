pub mod LinkRows
pub mod PricesSeen
pub mod Certified
pub mod Verified
pub mod Laws
