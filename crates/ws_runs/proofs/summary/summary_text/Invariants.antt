-- The summaries of the peers so far.
use Rattle.std.proofs.Common.{◌≡◌, length, map, string_bytes, take}
use Rattle.std.specs.List.{flat_map}
use Rattle.ws_runs.specs.Rows.{row_ids}
use Rattle.ws_runs.specs.Summary.{peer_summary}
use Rattle.ws_runs.proofs.summary.summary_text.Given as goal

abbrev pub invariant-loop-peer : goal.invariant-loop-peer
invariant-loop-peer l =
    let listed = map string_bytes l.listed in
    string_bytes l.text ≡ flat_map (peer_summary listed (length (row_ids l.runs listed))) (take l.peer-index l.peer-items)
