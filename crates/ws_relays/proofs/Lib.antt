-- The lemmas behind connections that are tapped: one of them, and all.
pub mod EndPlaceLemmas
pub mod TapFits
pub mod RelayLemmas
pub mod RelaySteps
pub mod RelayNumbers
pub mod PairLemmas
pub mod RelayWork
pub mod RelayEvents
pub mod RelayRuns
pub mod RelaySees
pub mod RelayBegins
pub mod TappingLemmas
