-- Contain (01, "Contain"): answers, table, demands 1 and 2.
pub mod Outcomes
pub mod Contain
pub mod Table
pub mod Demand2
pub mod Demand1
