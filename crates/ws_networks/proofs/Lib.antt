-- The lemmas behind a connection: what was added to what a network did, one address that is tried, and one after the
-- other.
pub mod AddLemmas
pub mod EachLemmas
pub mod TryLemmas
pub mod DialLemmas
pub mod ZipLemmas
pub mod ComeLemmas
pub mod BoardLemmas
pub mod ListenLemmas
pub mod MeetLemmas
