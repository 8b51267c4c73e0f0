-- The lasso verdict, computed (01, "Verdict").
pub mod Verdict
