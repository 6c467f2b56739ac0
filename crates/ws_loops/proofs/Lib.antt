-- The lemmas behind a loop: the steps of a slot, what happened in one, what was taken of its lines, a list of which one
-- place is changed, and rounds.
pub mod StepLemmas
pub mod SinkLemmas
pub mod RunLemmas
pub mod PlaceLemmas
pub mod EndLemmas
pub mod RoundLemmas
pub mod LimitLemmas
pub mod SeatLemmas
pub mod InsideLemmas
pub mod StartLemmas
pub mod LoopLemmas
pub mod ListenLemmas
pub mod LawLemmas
