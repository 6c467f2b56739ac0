-- The lemmas behind a head that is read as a machine does, behind a probe, and behind a request that is answered.
pub mod HeadLemmas
pub mod ProbeLemmas
pub mod AdmitLemmas
