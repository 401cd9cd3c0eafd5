pub mod Steps
pub mod Causes
pub mod Due
pub mod Does
pub mod StepLaws
pub mod DoesLaws
pub mod Words
