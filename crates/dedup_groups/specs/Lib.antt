pub mod Groups
pub mod GroupsText
pub mod Forest
