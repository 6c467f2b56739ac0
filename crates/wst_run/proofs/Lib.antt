-- The lemmas behind runs: what plans, the ends that they name, scripts that are sent, runs over clients and sweeps
-- tell, and the status that a run ends with.
pub mod PlanLemmas
pub mod EndLemmas
pub mod RunLemmas
pub mod ClientRunLemmas
pub mod ClientSweepLemmas
pub mod SendLemmas
pub mod NotedLemmas
