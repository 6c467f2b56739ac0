-- Frame after frame: the right pongs of those that were passed, and the place behind them.
use Rattle.std.proofs.Common.{ℕ, ◌≡◌, ◌+◌, length}
use Rattle.std.specs.List.{concat}
use Rattle.ws_suite.specs.Evidence.{got_turns}
use Rattle.ws_suite.specs.InnerMarks.{IsPlaceIn}
use Rattle.ws_suite.proofs.PongsAmong.{HasPassed}
use Rattle.ws_suite.proofs.evidence.behind.pongs_behind.Given as goal

-- the place, with what is left behind it, and the pongs before it
abbrev pub invariant-loop-frame : goal.invariant-loop-frame
invariant-loop-frame l = (n : ℕ) × IsPlaceIn l.transcript.turns n l.place
    × (n + length l.rest ≡ length (concat (got_turns l.transcript.turns)))
    × HasPassed l.role (got_turns l.transcript.turns) l.fn.before l.fn.bytes n l.rest l.pongs

abbrev pub decreases-loop-frame : goal.decreases-loop-frame
decreases-loop-frame l = length l.rest
