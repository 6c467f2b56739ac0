-- The lemmas behind lines that wait, behind what is shown of a run that goes on, and behind the machine that wants them.
pub mod MarkedTellings
pub mod RoomLemmas
pub mod GrowthLemmas
pub mod RunLemmas
pub mod ShowingLemmas
pub mod ShownLemmas
pub mod ProbeShownLemmas
pub mod StageShownLemmas
pub mod RunShownLemmas
