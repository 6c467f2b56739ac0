-- The case of the next script stands behind those before it.
use Rattle.std.proofs.Common.{◌≡◌, ◌∙◌, ◌+◌, ◌++◌, ◌∷◌, [], List, All, ap, arith, length, subst, sym}
use Rattle.std.proofs.lemmas.List.{length-append}
use Rattle.std.proofs.lemmas.List.Elements.{All-push}
use Rattle.ws_scripts.specs.Scripts.{CanBeRun}
use Rattle.ws_scripts.specs.declared.script.Case.{Case}
use Rattle.wst_run.proofs.ClientSweepLemmas.{named_pushed}
use Rattle.wst_run.proofs.sweeping_clients.short_cases.Goals as goal

pub loop-script-preserved : goal.loop-script-preserved
loop-script-preserved c =
    let at = c.loop-script in
    let given = c.in-Some.ensures.steps in
    let case = c.in_ok-case.case in
    let place = at.invariant.place in
    let many = at.invariant.many in
    let grown : c.push.new.self.items ≡ at.cases.items ++ case ∷ [] = c.in_ok-push.ensures.items in
    let long = ap (λ (l : List Case). length l) grown ∙ length-append at.cases.items (case ∷ []) in record {
      named = named_pushed c.args.expected at.cases.items c.push.new.self.items c.in-Some.script case grown
          at.invariant.named given.0 (given.1 ∙ sym many) c.in_ok-case.ensures.named;
      many = omega (arith, long, many, given.2);
      place = omega (arith, place, given.2, given.3);
      runs = subst (λ (l : List Case). All CanBeRun l) (sym grown)
          (All-push CanBeRun at.cases.items case at.invariant.runs c.in_ok-case.ensures.runs);
    }
