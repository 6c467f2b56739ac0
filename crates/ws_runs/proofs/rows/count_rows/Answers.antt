-- The other listed cases are counted beside those that have a result.
use Rattle.std.proofs.Common.{◌≡◌, ◌∙◌, ℕ, List, ap, length, map, not, rules, string_bytes, sym}
use Rattle.std.proofs.lemmas.List.{length-map}
use Rattle.std.specs.Borrow.{Bor}
use Rattle.std.specs.List.{count_by}
use Rattle.ws_runs.specs.Names.{is_among}
use Rattle.ws_runs.proofs.RowLemmas.{rows_counted}
use Rattle.ws_runs.proofs.rows.count_rows.Goals as goal

pub returns : goal.returns
returns c =
    let listed = map string_bytes c.args.listed.now in
    let had : length c.ids-count.result.now ≡ length c.args.runs.now.ids =
    sym (length-map c.ids-count.result.now (λ (text : Bor (List ℕ)). text.now))
    ∙ ap (λ (ids : List (List ℕ)). length ids) c.ids-count.ensures in
    rows_counted c.args.runs.now listed (length c.ids-count.result.now) c.count_others.result (search rules) had
    (c.count_others.ensures.count
    ∙ ap (λ (ids : List (List ℕ)). count_by (λ name. not (is_among name ids)) listed) c.ids.ensures)
