pub mod Made
pub mod People
