-- None of the names so far is the one, and what is left decides.
use Rattle.std.proofs.Common.{◌≡◌, drop, map, string_bytes}
use Rattle.ws_runs.specs.Summary.{follows}
use Rattle.ws_runs.proofs.id_runs.follows.Given as goal

abbrev pub invariant-loop-place : goal.invariant-loop-place
invariant-loop-place l =
    follows (map string_bytes (drop l.place l.listed)) l.one l.other ≡ follows (map string_bytes l.listed) l.one l.other
