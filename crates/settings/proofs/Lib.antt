pub mod TextRanges
pub mod WordTables
pub mod FieldRanges
pub mod Ranges
