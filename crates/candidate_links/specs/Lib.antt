pub mod Candidates
pub mod Merging
pub mod Capacities
pub mod PassLaws
pub mod CandidateLaws
