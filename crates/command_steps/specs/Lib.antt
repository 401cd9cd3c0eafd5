pub mod Front
pub mod Reviewed
