-- The next script is given, with its case.
use Rattle.std.proofs.Common.{◌≡◌, ◌∙◌, Some, arith, rules, subst}
use Rattle.ws_sweep.specs.Order.{GivesScript, ScriptsLeft}
use Rattle.wst_testing.specs.Sweeps.{MakesCasesOf}
use Rattle.wst_testing.specs.declared.sweeping.SweepRules.{SweepRules}
use Rattle.wst_testing.proofs.SweepLemmas.{given_more}
use Rattle.wst_testing.proofs.short_runs.ShortRunsCaseSource.advance.Goals as goal

pub returns : goal.returns
returns c =
    let inside = c.self.inside in
    let same : inside.rules ≡ c.args.self.now.rules = search rules in
    let there : inside.scripts ≡ c.args.self.now.scripts = search rules in
    let given = subst (λ (s : ScriptsLeft). GivesScript s (Some c.in-Some.script) c.next.new.self) there
    c.in-Some.ensures.steps in
    let kept = subst (λ (r : SweepRules). MakesCasesOf r inside.cases) same c.self.invariant in
    let makes : MakesCasesOf c.args.self.now.rules c.give_back.new.cases = (
      c.give_back.ensures.tested ∙ kept.0,
      c.give_back.ensures.expected ∙ kept.1,
      c.give_back.ensures.key ∙ kept.2,
    ) in (
      c.in_ok-case.ensures.runs,
      omega (arith, given.3),
      λ start items gave. given_more start c.args.self.now _ items c.give_back.new.cases c.in-Some.script
          c.in_ok-case.case gave makes given.0 given.1 given.2 given.3 same c.in_ok-case.ensures.is,
    )
