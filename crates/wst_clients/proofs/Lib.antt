-- The lemmas behind clients under test: what came of each turn, and what is told or captured of them all.
pub mod VisitLemmas
pub mod TurnLemmas
pub mod VisitorLemmas
pub mod HeldLemmas
pub mod VisitingLemmas
pub mod ClientLemmas
pub mod CaptureLemmas
pub mod UnmetLemmas
pub mod SendLemmas
