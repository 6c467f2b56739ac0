-- A session whose stream has ended agrees with the same exchange, ended.
use Rattle.std.proofs.Common.{◌∙◌, ap, sym}
use Rattle.ws_session.specs.declared.status.Status.{Status}
use Rattle.ws_session.specs.Exchange.{is_over}
use Rattle.ws_session.proofs.SomeExchange.{after_end}
use Rattle.ws_session.proofs.session.Session.end.Goals as goal

pub invariant_of-self : goal.invariant_of-self
invariant_of-self c = (after_end c.self.inside.state c.end_with.new.self c.self.invariant.0 (ap (λ (s : Status). is_over s) (sym c.status.ensures) ∙ sym c.is_over.ensures ∙ c.if-not-is_over.true) c.end_with.ensures, c.self.invariant.1)
