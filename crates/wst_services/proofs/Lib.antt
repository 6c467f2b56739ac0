-- The lemmas behind the services: the lines of connections served or tapped.
pub mod ServedLemmas
pub mod TapLemmas
