-- The lemmas behind the commands: the cases that words stand for, what is delivered, how a verdict is
-- explained, the scripts of all cases and the rules of verdicts, the first place of a byte,
-- and the steps of the loops over a damaged line.
pub mod CaseLemmas
pub mod Delivering
pub mod ReadLines
pub mod PutBehind
pub mod CaptureStops
pub mod LastGot
pub mod Explained
pub mod Told
pub mod NamedScripts
pub mod RuleTexts
pub mod PageRecords
pub mod ShownTexts
pub mod FirstPlaces
pub mod StepLoops
