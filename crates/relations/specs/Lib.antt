-- Relations on the states and their transitive closure, and how the code holds them.
pub mod Closure
pub mod Rows
