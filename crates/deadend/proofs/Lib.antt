-- How the code of the dead-end test holds sets and relations.
pub mod Tested
pub mod WordDeadEnds
