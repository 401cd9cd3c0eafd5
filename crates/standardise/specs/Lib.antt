pub mod Cleaning
pub mod DateReads
pub mod Kept
pub mod Names
