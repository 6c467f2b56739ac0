-- Each byte so far is this one.
use Rattle.std.proofs.Common.{◌≡◌, ◌==◌, ℕ, true, take}
use Rattle.std.specs.List.{list_all}
use Rattle.ws_scripts.proofs.script_text.data.are_all.Given as goal

abbrev pub invariant-loop-other : goal.invariant-loop-other
invariant-loop-other l = list_all (λ (other : ℕ). other == l.byte) (take l.other-index l.bytes) ≡ true
