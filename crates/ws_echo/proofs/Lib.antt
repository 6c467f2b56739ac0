-- The lemmas behind an echo as a machine: its replies piece by piece, and what it is told.
pub mod Echoing
pub mod ReplyLemmas
pub mod EchoLemmas
