pub mod Words
pub mod Field
pub mod Pass
pub mod Settings
