-- Lines behind times.
pub mod TimedLemmas
-- What stands behind the heads.
pub mod HeadLemmas
-- A longer front of the bytes is written.
pub mod WritingLemmas
