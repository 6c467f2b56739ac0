-- One case more is written.
use Rattle.std.proofs.Common.{◌++◌, List, ℕ, [], ap, codes, get_or, map, refl, rules}
use Rattle.std.proofs.lemmas.List.{drop_all, get_or_default}
use Rattle.ws_runs.specs.Json.{case_json, members_from}
use Rattle.ws_runs.specs.Views.{result_value}
use Rattle.ws_runs.specs.declared.result.CaseResult.{CaseResult}
use Rattle.ws_runs.proofs.NoResult.{no_result}
use Rattle.ws_runs.proofs.Marked.{marked_step, text_end}
use Rattle.ws_runs.proofs.index.CaseMembersDisplay.fmt.Goals as goal

pub loop-case-preserved : goal.loop-case-preserved
loop-case-preserved g c = (
  search rules,
  λ plain.
      let so_far = c.loop-case.invariant.1 plain in
      let cases = c.args.self.now.0.now in
      let case = get_or cases c.loop-case.case-index no_result in
      marked_step g.W.Write.write_str_gives c.args.f.now c.loop-case.f c.write.new.self
      (λ (case : CaseResult). case_json (result_value case))
      (λ (cases : List CaseResult) (mark : List ℕ). members_from (map result_value cases) mark) (codes ",")
      (λ case cases mark. refl) cases c.loop-case.case-index case c.loop-case.mark.now _ (search rules)
      (get_or_default cases c.loop-case.case-index no_result case (search rules)) so_far
      (c.in_ok-write.ensures.writes so_far.2.plain refl),
)

pub returns-clause-writes : goal.returns-clause-writes
returns-clause-writes g c = λ plain ok.
    text_end g.W.Write.write_str_gives c.args.f.now c.loop-case.f _ _ (c.loop-case.invariant.1 plain)
    (ap (λ (l : List CaseResult). members_from (map result_value l) c.loop-case.mark.now)
    (drop_all c.loop-case.case-index c.args.self.now.0.now (search rules)))
