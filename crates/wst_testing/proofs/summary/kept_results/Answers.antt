-- One result more.
use Rattle.std.proofs.Common.{◌≡◌, ◌∙◌, ◌+◌, [], ◌∷◌, ◌++◌, List, ap, ap₂, map, rules, sym, take}
use Rattle.std.proofs.lemmas.List.{map-append, take_more}
use Rattle.ws_reports.specs.declared.kept.KeptVerdict.{KeptVerdict}
use Rattle.ws_runs.specs.Runs.{ResultValue}
use Rattle.ws_runs.specs.Views.{result_value}
use Rattle.ws_runs.specs.declared.result.CaseResult.{CaseResult}
use Rattle.wst_testing.specs.Summaries.{kept_result}
use Rattle.wst_testing.proofs.summary.kept_results.Goals as goal

pub loop-verdict-preserved : goal.loop-verdict-preserved
loop-verdict-preserved c =
    let kept = c.args.kept.now in
    let i = c.loop-verdict.verdict-index in
    let verdict = c.verdict-item.result in
    let old = c.loop-verdict.results.items in
    let more : take (i + 1) kept ≡ take i kept ++ verdict ∷ [] =
    take_more kept i verdict (search rules) ∙ ap (λ (v : KeptVerdict). take i kept ++ v ∷ []) (sym c.verdict-item.is) in
    ap (λ (l : List CaseResult). map result_value l) c.in_ok-push.ensures.items
    ∙ map-append result_value old (c.kept_result.result ∷ [])
    ∙ ap₂ (λ (l : List ResultValue) (r : ResultValue). l ++ r ∷ []) c.loop-verdict.invariant c.kept_result.ensures
    ∙ sym (map-append kept_result (take i kept) (verdict ∷ []))
    ∙ ap (λ (l : List KeptVerdict). map kept_result l) (sym more)
