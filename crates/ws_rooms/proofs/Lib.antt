-- The lemmas behind what was put into a room: what was written and what waits.
pub mod Waiting
