pub mod Values
pub mod Files
pub mod Kept
pub mod Ready
pub mod Sides
pub mod Taking
