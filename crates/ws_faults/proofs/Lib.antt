-- The lemmas behind a finder: what an event makes of what was found, and what is found in the end; and where a frame
-- that is marked stands.
pub mod FinderLemmas
pub mod MarkedFronts
