-- One summary more.
use Rattle.std.proofs.Common.{◌∙◌, ◌++◌, ℕ, List, ap, length, map, rules, string_bytes}
use Rattle.ws_runs.specs.Rows.{row_ids}
use Rattle.ws_runs.specs.Summary.{peer_summary}
use Rattle.ws_runs.proofs.Walks.{texts_more}
use Rattle.ws_runs.proofs.summary.summary_text.Goals as goal

pub loop-peer-preserved : goal.loop-peer-preserved
loop-peer-preserved c =
    let listed = map string_bytes c.args.listed.now in
    let part = peer_summary listed (length (row_ids c.args.runs.now listed)) in
    c.in_ok-push_peer.ensures
    ∙ ap (λ (n : ℕ). string_bytes c.loop-peer.text ++ peer_summary listed n c.peer-item.result) c.count_rows-rows.ensures
    ∙ ap (λ (l : List ℕ). l ++ part c.peer-item.result) c.loop-peer.invariant
    ∙ texts_more part c.peers-peer-items.result.now c.loop-peer.peer-index c.peer-item.result (search rules) c.peer-item.is
