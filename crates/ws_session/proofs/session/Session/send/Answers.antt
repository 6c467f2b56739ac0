-- A session that has sent a frame agrees with its exchange and this frame, as its state does.
use Rattle.std.proofs.Common.{subst}
use Rattle.ws_session.specs.Exchange.{SessionValue}
use Rattle.ws_session.specs.Sends.{send_of, HasSent}
use Rattle.ws_session.proofs.SomeExchange.{after_send}
use Rattle.ws_session.proofs.session.Session.send.Goals as goal

pub invariant_of-self-2 : goal.invariant_of-self-2
invariant_of-self-2 c = (after_send c.self.inside.state c.send.new.self (send_of c.args.frame.now) c.args.key c.args.out.now.items c.send.new.out.items c.self.invariant.0 c.in_ok-send.ensures.sent, c.self.invariant.1)

pub returns-clause-sent : goal.returns-clause-sent
returns-clause-sent c = subst (λ (v : SessionValue). HasSent v c.send.new.self (send_of c.args.frame.now) c.args.key c.args.out.now.items c.send.new.out.items) c.self.view_is c.in_ok-send.ensures.sent
