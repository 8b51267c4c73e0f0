-- The fixed form of a file, the call that writes it, its table and its demand 1 (02, S-1).
pub mod FixedForm
pub mod WriteAnswers
pub mod Write
pub mod WriteTable
pub mod WriteDemand
