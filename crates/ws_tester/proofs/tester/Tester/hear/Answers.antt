-- What was noted is heard.
use Rattle.std.proofs.Common.{subst, sym}
use Rattle.ws_tester.specs.Following.{StandsNow, TesterValue}
use Rattle.ws_tester.proofs.tester.Tester.hear.Goals as goal

pub returns-then-not-self-clause-stands : goal.returns-then-not-self-clause-stands
returns-then-not-self-clause-stands c = subst (λ (v : TesterValue). StandsNow c.args.self.now v.standing)
    (sym c.self.view_is) c.in_ok-note_standing.ensures.stands
