pub mod Links
pub mod Ways
pub mod Growing
pub mod Final
