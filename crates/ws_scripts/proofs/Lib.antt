-- The lemmas behind scripts and captures: a text is read in one way, writing gives one, and a script can be run.
mod PieceLemmas
pub mod WalkLemmas
mod TurnLemmas
mod CutLemmas
mod CaseNaming
mod CaptureWords
pub mod CaptureParts
mod CaptureTurns
mod CaptureTurns2
mod CaptureTells
mod CaptureLaws
mod CaptureTexts
mod ScriptWords
mod QuotedFronts
mod QuotedLemmas
mod ScriptData
mod ScriptFields
mod ScriptFrames
mod ScriptSteps
mod ScriptParts
mod ScriptRuns
mod ScriptWriting
