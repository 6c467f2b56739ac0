-- One line more.
use Rattle.std.proofs.Common.{◌∙◌, ◌++◌, ℕ, List, ap, append_assoc, map, rules, string_bytes, take}
use Rattle.std.specs.List.{flat_map}
use Rattle.ws_runs.specs.Summary.{tally_line}
use Rattle.ws_runs.proofs.Walks.{texts_more}
use Rattle.ws_runs.proofs.summary.push_tallies.Goals as goal

pub loop-tally-preserved : goal.loop-tally-preserved
loop-tally-preserved c =
    let part = tally_line (map string_bytes c.args.listed.now) in
    let all = c.as_slice-tally-items.result.now in
    let old = string_bytes c.args.text.now in
    c.in_ok-push_tally.ensures ∙ ap (λ (l : List ℕ). l ++ part c.tally-item.result) c.loop-tally.invariant
    ∙ append_assoc old (flat_map part (take c.loop-tally.tally-index all)) (part c.tally-item.result)
    ∙ ap (λ (l : List ℕ). old ++ l)
    (texts_more part all c.loop-tally.tally-index c.tally-item.result (search rules) c.tally-item.is)
