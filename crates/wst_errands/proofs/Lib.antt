-- The lemmas behind errands: how one comes on, and how the line is kept.
pub mod WayLemmas
pub mod LineLemmas
pub mod GivingLemmas
pub mod ErrandRuns
