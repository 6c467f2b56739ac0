-- A piece that gives no event is taken whole, for either way of answering; where memory fails, it was wanted.
use Rattle.std.proofs.Common.{◌≡◌, ◌∙◌, true, false, length, [], None, sym, ap, subst}
use Rattle.ws_session.specs.declared.session.Answering.TheVariants.{Plain}
use Rattle.ws_session.specs.Exchange.{SessionValue, is_over}
use Rattle.ws_session.specs.Taking.{HasTaken}
use Rattle.ws_session.specs.Memory.{WantsMemoryToTell}
use Rattle.ws_session.specs.InnerInvariant.{CanAnswer, reply_by}
use Rattle.ws_session.proofs.Calls.{call_of}
use Rattle.ws_session.proofs.SomeExchange.{after_take}
use Rattle.ws_session.proofs.Wants.{on_err}
use Rattle.ws_session.proofs.session.Session.take_unplaced.Goals as goal

pub invariant_of-self-then-branch : goal.invariant_of-self-then-branch
invariant_of-self-then-branch c =
    let going : is_over c.self.inside.state.status ≡ false = ap (λ (x : SessionValue). is_over x.status) c.self.view_is ∙ c.requires.going in
    let takes = c.in_ok-take_quiet.ensures.taken Plain [] [] tt c.if-branch.true in (
      after_take c.self.inside.state c.take_quiet.new.self (reply_by Plain) (call_of c.args.piece.now [] [] []) (record { used = length c.args.piece.now; event = None }) c.self.invariant.0 takes
          (λ over. let no : true ≡ false = sym over ∙ going in absurd cc),
      c.self.invariant.1,
    )

pub returns-then-branch-clause-taken : goal.returns-then-branch-clause-taken
returns-then-branch-clause-taken c = λ answering key before may.
    let can : CanAnswer answering c.self.inside.state.sending = subst (λ (v : SessionValue). CanAnswer answering v.sending) (sym c.self.view_is) may in
    subst (λ (v : SessionValue). HasTaken (reply_by answering) v c.take_quiet.new.self (call_of c.args.piece.now key before before) (record { used = length c.args.piece.now; event = None })) c.self.view_is (c.in_ok-take_quiet.ensures.taken answering key before can c.if-branch.true)

pub returns-clause-memory : goal.returns-clause-memory
returns-clause-memory c = subst (λ (v : SessionValue). WantsMemoryToTell v c.args.piece.now) c.self.view_is (c.in_ok-take_quiet.ensures.tells c.if-branch.false)

pub returns-in_err-take_quiet-clause-memory : goal.returns-in_err-take_quiet-clause-memory
returns-in_err-take_quiet-clause-memory c = on_err c.from_residual.result _ (subst (λ (v : SessionValue). WantsMemoryToTell v c.args.piece.now) c.self.view_is c.in_err-take_quiet.ensures.memory)
