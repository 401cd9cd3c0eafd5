pub mod Outside
pub mod Fakes
pub mod Refusal
