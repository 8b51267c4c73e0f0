-- Laws and theorems about the listing's line.
pub mod Lines
pub mod Examples
pub mod LineLengths
pub mod ListingCases
