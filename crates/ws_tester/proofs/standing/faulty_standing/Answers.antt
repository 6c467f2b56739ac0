-- By the protocol a fault without an undefined code stays one.
use Rattle.std.proofs.Common.{◌∙◌, ◌++◌, refl, subst, sym, inr}
use Rattle.std.proofs.lemmas.Bool.{false≢true}
use Rattle.std.specs.List.{concat}
use Rattle.ws_scripts.specs.declared.expectation.Expectation.{Expectation}
use Rattle.ws_suite.specs.Evidence.{got_turns, other_role}
use Rattle.ws_tester.specs.Standings.{CountsAsClose}
use Rattle.ws_tester.proofs.standing.faulty_standing.Goals as goal

pub returns-else-counts : goal.returns-else-counts
returns-else-counts c = inr (
  subst (λ (e : Expectation). ¬ (CountsAsClose e (other_role c.args.plan.tested)
      (concat (got_turns c.args.past.now) ++ c.args.got.now))) (sym c.in-Protocol.is)
      (λ counts. false≢true (sym c.if-counts.false ∙ c.in_ok-counts-in-Protocol.ensures.1 counts)),
  refl,
)
