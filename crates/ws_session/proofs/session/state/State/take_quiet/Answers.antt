-- What the receiving side takes without an event, the session takes so, whole; where memory fails, it was wanted.
use Rattle.std.proofs.Common.{◌≡◌, false, length, None, sym, refl, subst, arith}
use Rattle.ws_wire.specs.Header.{AreBytes}
use Rattle.ws_session.specs.Exchange.{SessionValue, is_over}
use Rattle.ws_session.specs.Taking.{HasTaken}
use Rattle.ws_session.specs.Memory.{WantsMemoryToTell}
use Rattle.ws_session.specs.InnerInvariant.{CanAnswer, reply_by}
use Rattle.ws_session.specs.InnerReceiver.{session_with}
use Rattle.ws_session.proofs.Calls.{call_of}
use Rattle.ws_session.proofs.OneTake.{takes_part}
use Rattle.ws_session.proofs.ReceivedCalls.{wants_told}
use Rattle.ws_session.proofs.session.state.State.take_quiet.Goals as goal

pub returns-in-Ok-true-clause-taken : goal.returns-in-Ok-true-clause-taken
returns-in-Ok-true-clause-taken c = λ answering key before may yes.
    let i = c.self.inside in
    let went = c.in-Ok-true.ensures in
    let on = went.goes_on c.in-Ok-true.field-0-test in
    let piece = c.args.piece.now in
    let can : CanAnswer answering i.sending = subst (λ (x : SessionValue). CanAnswer answering x.sending) (sym c.self.view_is) may in
    let going : is_over i.status ≡ false = subst (λ (x : SessionValue). is_over x.status ≡ false) (sym c.self.view_is) c.requires.going in
    let are : AreBytes piece = λ k. omega (arith, c.type_inv.piece k) in
    subst (λ (x : SessionValue). HasTaken (reply_by answering) x (session_with c.take_quiet.new.self i.sending i.status) (call_of piece key before before) (record { used = length piece; event = None })) c.self.view_is
    (λ exchange unended h. takes_part answering (session_with i.receiver i.sending i.status) can exchange.sent exchange.taken piece exchange.ended key before before h going are (session_with c.take_quiet.new.self i.sending i.status)
    on.part refl went.role went.limits on.opened_is on.partial refl refl)

pub returns-in-Ok-false-clause-tells : goal.returns-in-Ok-false-clause-tells
returns-in-Ok-false-clause-tells c = λ no.
    let i = c.self.inside in
    let sound = c.self.invariant.sound in
    let going : is_over i.status ≡ false = subst (λ (x : SessionValue). is_over x.status ≡ false) (sym c.self.view_is) c.requires.going in
    subst (λ (x : SessionValue). WantsMemoryToTell x c.args.piece.now) c.self.view_is (wants_told i.receiver i.status going c.args.piece.now (λ k. omega (arith, c.type_inv.piece k)) i.sending sound.part (c.in-Ok-false.ensures.tells c.in-Ok-false.field-0-test))

pub returns-in-Err-clause-memory : goal.returns-in-Err-clause-memory
returns-in-Err-clause-memory c =
    let i = c.self.inside in
    let sound = c.self.invariant.sound in
    let going : is_over i.status ≡ false = subst (λ (x : SessionValue). is_over x.status ≡ false) (sym c.self.view_is) c.requires.going in
    subst (λ (x : SessionValue). WantsMemoryToTell x c.args.piece.now) c.self.view_is (wants_told i.receiver i.status going c.args.piece.now (λ k. omega (arith, c.type_inv.piece k)) i.sending sound.part c.in-Err.ensures.wants)
