-- What is kept tells it, there is one evidence, and where the last ping is answered, what is waited for has come.
use Rattle.std.proofs.Common.{◌≡◌, ◌↔◌, rules, subst, sym, true}
use Rattle.ws_scripts.specs.declared.expectation.Expectation.{Expectation}
use Rattle.ws_scripts.specs.declared.expectation.Expectation.TheVariants.{Echo, Protocol}
use Rattle.ws_suite.specs.Waiting.{AreTurnsSeenAnswered}
use Rattle.ws_suite.proofs.WaitingLemmas.{seen_come, seen_of_echo, seen_of_last_ping}
use Rattle.ws_suite.proofs.evidence.growing.RunEvidence.is_answered_by.Goals as goal

pub returns-in-Echo-clause-seen : goal.returns-in-Echo-clause-seen
returns-in-Echo-clause-seen c = λ tested turns h.
    let is : c.args.expected ≡ Echo = search rules in
    subst (λ (e : Expectation). (c.is_answered.result ≡ true) ↔ AreTurnsSeenAnswered e tested turns) (sym is)
    (seen_of_echo tested turns c.is_answered.result (c.is_answered.ensures tested turns h))

pub returns-in-Echo-clause-answered : goal.returns-in-Echo-clause-answered
returns-in-Echo-clause-answered c = λ tested turns h e.
    let is : c.args.expected ≡ Echo = search rules in
    seen_come c.args.expected tested turns
    (subst (λ (x : Expectation). AreTurnsSeenAnswered x tested turns) (sym is)
    ((seen_of_echo tested turns c.is_answered.result (c.is_answered.ensures tested turns h)).0 e))

pub returns-in-Protocol-clause-seen : goal.returns-in-Protocol-clause-seen
returns-in-Protocol-clause-seen c = λ tested turns h.
    let is : c.args.expected ≡ Protocol = search rules in
    subst (λ (e : Expectation). (c.is_answered-in-Protocol.result ≡ true) ↔ AreTurnsSeenAnswered e tested turns) (sym is)
    (seen_of_last_ping c.session_laws.ensures tested turns _ c.args.self.now c.is_answered-in-Protocol.result c.self.view_is
    c.is_answered-in-Protocol.ensures h)

pub returns-in-Protocol-clause-answered : goal.returns-in-Protocol-clause-answered
returns-in-Protocol-clause-answered c = λ tested turns h e.
    let is : c.args.expected ≡ Protocol = search rules in
    seen_come c.args.expected tested turns
    (subst (λ (x : Expectation). AreTurnsSeenAnswered x tested turns) (sym is)
    ((seen_of_last_ping c.session_laws.ensures tested turns _ c.args.self.now c.is_answered-in-Protocol.result c.self.view_is
    c.is_answered-in-Protocol.ensures h).0 e))
