-- The name is none of the parts' so far.
use Rattle.std.proofs.Common.{take}
use Rattle.std.specs.List.{Contains}
use Rattle.ws_scripts.specs.CaseNames.{all_in}
use Rattle.ws_scripts.specs.InnerCases.{names_by_part}
use Rattle.ws_scripts.proofs.cases.case.Given as goal

abbrev pub invariant-loop-part : goal.invariant-loop-part
invariant-loop-part l = Contains (all_in (take l.part names_by_part)) l.id → ⊥
