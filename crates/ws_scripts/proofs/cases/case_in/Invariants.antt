-- The name is none of the sections' so far.
use Rattle.std.proofs.Common.{take}
use Rattle.std.specs.List.{Contains}
use Rattle.ws_scripts.specs.InnerCases.{section_names_of}
use Rattle.ws_scripts.proofs.cases.case_in.Given as goal

abbrev pub invariant-loop-section : goal.invariant-loop-section
invariant-loop-section l = Contains (section_names_of (take l.section-index l.sections)) l.id → ⊥
