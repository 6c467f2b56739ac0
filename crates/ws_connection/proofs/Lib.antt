-- The lemmas behind a connection: what is read for its head, served, written, recorded and admitted.
pub mod HeadLemmas
pub mod ServingLemmas
pub mod StreamLemmas
pub mod StreamLaws
pub mod ProbingLemmas
pub mod OpeningLemmas
pub mod HeaderLemmas
pub mod AdmittingLemmas
