pub mod Borders
pub mod Frontier
