-- The peers so far are written, and what is left follows.
use denote.Shadow.{shadow}
use denote.Text.{Utf8}
use Rattle.std.proofs.Common.{drop}
use Rattle.std.specs.Fmt.{IsPlainFormatter}
use Rattle.ws_runs.specs.Json.{peers_from, peers_json}
use Rattle.ws_runs.proofs.Marked.{Goes}
use Rattle.ws_runs.proofs.index.PeerMembersDisplay.fmt.Given as goal

abbrev pub invariant-loop-peer : goal.invariant-loop-peer
invariant-loop-peer g l = shadow (Utf8 l.mark) × (IsPlainFormatter l.initial.f
    → Goes g.W.Write.write_str_gives l.initial.f l.f (peers_from (drop l.peer-index l.peer-items) l.mark)
    (peers_json l.peer-items))
