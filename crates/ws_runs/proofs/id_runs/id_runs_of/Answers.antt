-- Each case is looked at once.
use Rattle.std.proofs.Common.{◌∙◌, ◌+◌, List, ℕ, [], drop, get_or, map, ap, rules, string_bytes}
use Rattle.std.proofs.lemmas.List.{get_or_default}
use Rattle.std.specs.Borrow.{Bor}
use Rattle.std.specs.List.{fold}
use Rattle.ws_runs.specs.Summary.{IdRunValue, with_id}
use Rattle.ws_runs.specs.Views.{run_values, texts_now}
use Rattle.ws_runs.proofs.Walks.{walk_end, walk_step}
use Rattle.ws_runs.proofs.id_runs.id_runs_of.Goals as goal

abbrev no_text : Bor (List ℕ)
no_text = record { ref_ptr = (0, 0); now = [] }

abbrev now_of : Bor (List ℕ) → List ℕ
now_of text = text.now

pub loop-id-preserved : goal.loop-id-preserved
loop-id-preserved c =
    let f = with_id (map string_bytes c.args.listed.now) in
    let ids = c.args.ids.now in
    let i = c.loop-id.id-index in
    let id = get_or ids i no_text in
    ap (λ (l : List IdRunValue). fold f l (texts_now (drop (i + 1) ids))) c.in_ok-put_id.ensures
    ∙ walk_step f now_of ids i id (run_values c.loop-id.runs.items) _ (search rules)
    (get_or_default ids i no_text id (search rules)) c.loop-id.invariant

pub returns : goal.returns
returns c =
    walk_end (with_id (map string_bytes c.args.listed.now)) now_of c.args.ids.now c.loop-id.id-index
    (run_values c.loop-id.runs.items) _ (search rules) c.loop-id.invariant
