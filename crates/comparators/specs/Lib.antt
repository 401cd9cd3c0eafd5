pub mod Laws
pub mod OfPoolLaws
pub mod Fields
