-- Checks in order, as tables of rows.
pub mod Checks
