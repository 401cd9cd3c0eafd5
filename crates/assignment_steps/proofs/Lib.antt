pub mod Members
pub mod Chained
