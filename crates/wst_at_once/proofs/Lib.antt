-- The lemmas behind cases that run several at a time: each case beside its machine, and what a sink was told so far.
pub mod BeginLemmas
pub mod BesideLemmas
pub mod TellLemmas
pub mod CrowdLemmas
pub mod ConnectLemmas
