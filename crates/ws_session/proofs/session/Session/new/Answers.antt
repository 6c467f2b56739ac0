-- A new session agrees with the exchange in which nothing was sent or taken.
use Rattle.std.proofs.Common.{false, [], sym, subst}
use Rattle.ws_session.specs.Exchange.{SessionValue, HasExchanged}
use Rattle.ws_session.proofs.Fresh.{fresh}
use Rattle.ws_session.proofs.session.Session.new.Goals as goal

pub invariant_of-result : goal.invariant_of-result
invariant_of-result c = ((record { sent = []; taken = []; ended = false }, subst (λ (v : SessionValue). HasExchanged v [] [] false) (sym c.new.ensures) (fresh c.args.role c.args.limits)), c.new-2.ensures)

pub returns-clause-exchanged : goal.returns-clause-exchanged
returns-clause-exchanged c = subst (λ (v : SessionValue). HasExchanged v [] [] false) (sym c.new.ensures) (fresh c.args.role c.args.limits)
