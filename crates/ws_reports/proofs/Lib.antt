-- The lemmas behind reports: lines are read in one way, verdicts are known by them, and what is escaped is safe in XML.
mod Cuts
mod Parts
mod BehindTotals
mod KeptLemmas
pub mod CountLemmas
mod Knowing
mod Escapes
mod FirstWords
