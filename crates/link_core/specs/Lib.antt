pub mod Prepared
pub mod Pairs
pub mod ColumnPairs
pub mod ColumnRecords
pub mod NameKeys
pub mod Rules
pub mod Decisions
pub mod Review
