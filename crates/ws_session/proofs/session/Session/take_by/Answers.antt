-- A call of what a session keeps is one of the session: some exchange stands behind it again.
use Rattle.std.proofs.Common.{◌≡◌, subst}
use Rattle.std.specs.Prelude.{IfOk, OnErr}
use Rattle.ws_session.specs.Exchange.{SessionValue}
use Rattle.ws_session.specs.Taking.{HasTaken}
use Rattle.ws_session.specs.Memory.{WantsMemory}
use Rattle.ws_session.specs.InnerInvariant.{reply_by}
use Rattle.ws_session.proofs.Calls.{call_of}
use Rattle.ws_session.proofs.SomeExchange.{after_takes}
use Rattle.ws_session.proofs.session.Session.take_by.Goals as goal

pub invariant_of-self : goal.invariant_of-self
invariant_of-self c =
    let e = c.take_by.ensures in
    (after_takes c.self.inside.state c.take_by.new.self c.take_by.result c.take_by.new.room (reply_by c.args.answering) (call_of c.args.piece.now c.args.key c.args.out.now.items c.take_by.new.out.items) (c.take_by.new.out.items ≡ c.args.out.now.items) c.self.invariant.0 e.taken e.over e.kept, c.self.invariant.1)

pub returns-clause-taken : goal.returns-clause-taken
returns-clause-taken c = subst (λ (v : SessionValue). IfOk c.take_by.result (λ taken. HasTaken (reply_by c.args.answering) v c.take_by.new.self (call_of c.args.piece.now c.args.key c.args.out.now.items c.take_by.new.out.items) (record { used = taken.used; event = c.take_by.new.room }))) c.self.view_is c.take_by.ensures.taken

pub returns-clause-memory : goal.returns-clause-memory
returns-clause-memory c = subst (λ (v : SessionValue). OnErr c.take_by.result (WantsMemory (reply_by c.args.answering) v c.args.piece.now)) c.self.view_is c.take_by.ensures.memory
