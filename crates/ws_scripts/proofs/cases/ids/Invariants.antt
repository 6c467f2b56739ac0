-- The names of the parts so far.
use Rattle.std.proofs.Common.{◌≡◌, map, take, string_bytes}
use Rattle.ws_scripts.specs.CaseNames.{all_in, listed_by_group}
use Rattle.ws_scripts.proofs.cases.ids.Given as goal

abbrev pub invariant-loop-part : goal.invariant-loop-part
invariant-loop-part l = map string_bytes l.names.items ≡ all_in (take l.part listed_by_group)
