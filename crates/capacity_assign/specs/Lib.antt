pub mod Solution
pub mod Seating
pub mod Growth
pub mod Round
pub mod Prepared
