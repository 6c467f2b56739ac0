-- The lines of the verdicts so far.
use Rattle.std.proofs.Common.{◌≡◌, ◌++◌, map, string_bytes, take}
use Rattle.std.specs.List.{flat_map}
use Rattle.ws_runs.specs.Summary.{tally_line}
use Rattle.ws_runs.proofs.summary.push_tallies.Given as goal

abbrev pub invariant-loop-tally : goal.invariant-loop-tally
invariant-loop-tally l = string_bytes l.text
    ≡ string_bytes l.initial.text
    ++ flat_map (tally_line (map string_bytes l.listed)) (take l.tally-index l.tally-items)
