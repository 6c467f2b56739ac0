-- The lemmas behind tests: the lines and notes of cases, plans, reports and sweeps, and what an observer is told.
pub mod NoteLemmas
pub mod TestLemmas
pub mod RunnerLemmas
pub mod ReporterLemmas
pub mod CapturerLemmas
pub mod PlanLemmas
pub mod ReportLemmas
pub mod LoopLemmas
pub mod OutputLemmas
pub mod ShownLoopLemmas
pub mod SweepLemmas
