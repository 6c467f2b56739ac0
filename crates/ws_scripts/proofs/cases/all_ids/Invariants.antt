-- The names of the parts so far.
use Rattle.std.proofs.Common.{◌≡◌, map, take, string_bytes}
use Rattle.ws_scripts.specs.CaseNames.{all_in}
use Rattle.ws_scripts.specs.InnerCases.{names_by_part}
use Rattle.ws_scripts.proofs.cases.all_ids.Given as goal

abbrev pub invariant-loop-part : goal.invariant-loop-part
invariant-loop-part l = map string_bytes l.all.items ≡ all_in (take l.part names_by_part)
