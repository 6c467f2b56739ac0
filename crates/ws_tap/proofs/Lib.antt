-- The lemmas behind a tap: what it passes on, the heads it finds, the lines of both ends, and what a run has told.
pub mod FirstLines
pub mod HeadLemmas
pub mod HeadStarts
pub mod KeepingLemmas
pub mod Sides
pub mod Passages
pub mod PipeLemmas
pub mod TellLemmas
pub mod EndLemmas
pub mod TapLemmas
pub mod ToldLemmas
pub mod TapStands
pub mod RunLemmas
