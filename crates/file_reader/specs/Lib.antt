pub mod Known
pub mod Rows
pub mod Table
pub mod Reader
pub mod TableLaws
pub mod Takers
pub mod Words
