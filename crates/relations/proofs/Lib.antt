-- Laws of closures, of sets and relations held as words, and of what calls of a function made.
pub mod Calls
pub mod Closure
pub mod Rows
pub mod StateLists
