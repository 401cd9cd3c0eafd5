pub mod Laws
pub mod HeadlineFacts
pub mod AfterRunFacts
pub mod KeptVerdictFacts
pub mod MeaningFacts
