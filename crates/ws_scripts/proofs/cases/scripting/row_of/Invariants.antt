-- No row before this one has the name.
use Rattle.std.proofs.Common.{map, take}
use Rattle.std.specs.List.{Contains}
use Rattle.ws_scripts.specs.InnerCases.{row_name}
use Rattle.ws_scripts.proofs.cases.scripting.row_of.Given as goal

abbrev pub invariant-loop-place : goal.invariant-loop-place
invariant-loop-place l = Contains (map row_name (take l.place l.rows)) l.id → ⊥
