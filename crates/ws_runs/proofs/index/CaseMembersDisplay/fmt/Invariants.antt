-- The cases so far are written, and what is left follows.
use denote.Shadow.{shadow}
use denote.Text.{Utf8}
use Rattle.std.proofs.Common.{drop}
use Rattle.std.specs.Fmt.{IsPlainFormatter}
use Rattle.ws_runs.specs.Json.{members_from, members_json}
use Rattle.ws_runs.specs.Views.{result_values}
use Rattle.ws_runs.proofs.Marked.{Goes}
use Rattle.ws_runs.proofs.index.CaseMembersDisplay.fmt.Given as goal

abbrev pub invariant-loop-case : goal.invariant-loop-case
invariant-loop-case g l = shadow (Utf8 l.mark) × (IsPlainFormatter l.initial.f
    → Goes g.W.Write.write_str_gives l.initial.f l.f
    (members_from (result_values (drop l.case-index l.case-items)) l.mark)
    (members_json (result_values l.case-items)))
