pub mod Values
pub mod KeyFaults
pub mod KeptLaws
