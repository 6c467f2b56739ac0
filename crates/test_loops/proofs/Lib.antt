-- The lemmas behind the rows: an exchange is able to go on.
pub mod NotedLemmas
