-- The runs so far are written, and what is left follows.
use denote.Shadow.{shadow}
use denote.Text.{Utf8}
use Rattle.std.proofs.Common.{[], drop, map}
use Rattle.std.specs.Fmt.{IsPlainFormatter}
use Rattle.ws_runs.specs.Summary.{runs_text}
use Rattle.ws_runs.specs.Views.{run_value}
use Rattle.ws_runs.proofs.Marked.{Goes}
use Rattle.ws_runs.proofs.id_runs.RunsTextDisplay.fmt.Given as goal

abbrev pub invariant-loop-run : goal.invariant-loop-run
invariant-loop-run g l = shadow (Utf8 l.mark) × (IsPlainFormatter l.initial.f
    → Goes g.W.Write.write_str_gives l.initial.f l.f (runs_text l.mark (map run_value (drop l.run-index l.run-items)))
    (runs_text [] (map run_value l.run-items)))
