pub mod NumberingLaws
pub mod CodedRows
pub mod IndexRows
pub mod Ids
pub mod Numbering
pub mod Keys
pub mod PassIds
