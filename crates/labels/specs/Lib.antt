-- Labels of Hanoi edges: what they say, how they are read, and the grammar.
pub mod Labels
pub mod LabelReading
pub mod LabelGrammar
