pub mod LineParts
pub mod ReportText
pub mod PairsText
pub mod LinksText
pub mod Reading
