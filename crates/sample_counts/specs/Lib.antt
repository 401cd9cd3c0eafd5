pub mod Counts
pub mod Sample
pub mod Places
pub mod Tallies
pub mod Remainders
pub mod CountLaws
