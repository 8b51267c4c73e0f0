-- The listing (01, "Listing").
pub mod Line
pub mod Listing
