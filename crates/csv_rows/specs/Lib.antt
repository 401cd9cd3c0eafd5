pub mod NumberLaws
pub mod Numbers
