-- The lemmas behind words in passing.
pub mod ManyWords
