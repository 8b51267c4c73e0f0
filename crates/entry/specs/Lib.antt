-- What the checks of an offer give, as the code holds it.
pub mod Vetting
