-- Entries and the calls on them (01, "Verdict" and "Entry, open, offer"): tables, demand 1 of each call, the account and demand 3.
pub mod OpenAnswers
pub mod OfferAnswers
pub mod VerdictAnswers
pub mod Entries
pub mod Verdicts
pub mod Opens
pub mod Offers
pub mod Tables
pub mod OpenDemand
pub mod OfferDemand
pub mod VerdictDemand
pub mod Calls
pub mod Account
pub mod Lists
pub mod Demand
