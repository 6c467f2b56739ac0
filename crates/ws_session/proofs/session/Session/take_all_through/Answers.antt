-- Front after front of the piece is taken, to its end or the session's; where memory fails, that front changes nothing.
use Rattle.std.proofs.Common.{◌≡◌, ◌-◌, ◌<◌, ◌∙◌, true, false, List, ℕ, ap, sym, refl, subst, arith, length, take, drop}
use Rattle.std.proofs.lemmas.List.{take_rest, length-drop}
use Rattle.ws_session.specs.declared.status.Status.{Status}
use Rattle.ws_session.specs.Exchange.{SessionValue, is_over}
use Rattle.ws_session.specs.InnerInvariant.{reply_by}
use Rattle.ws_session.specs.Memory.{WantsMemoryToTell}
use Rattle.ws_session.proofs.TakenPieces.{nothing_taken, taken_to, taken_at_the_end, taken_whole}
use Rattle.ws_session.proofs.session.Session.take_all_through.Goals as goal

pub loop-used-init : goal.loop-used-init
loop-used-init c = record {
  within = omega arith;
  taken = nothing_taken (reply_by c.args.answering) c.args.self.now c.args.key c.args.out.now.items c.args.events.now.items;
  sending = refl;
  over = λ over. (refl, refl, refl);
}

pub loop-used-preserved : goal.loop-used-preserved
loop-used-preserved c =
    let used = c.loop-used.used in
    let piece = c.args.piece.now in
    let rest : take (length piece - used) (drop used piece) ≡ drop used piece = take_rest piece used in
    let size : length (take (length piece - used) (drop used piece)) ≡ length piece - used = ap (λ (l : List ℕ). length l) rest ∙ length-drop used piece in
    let some : 0 < length (take (length piece - used) (drop used piece)) = omega (arith, size, c.loop-used-test.true) in
    let going : is_over c.loop-used.self.status ≡ false = ap (λ (s : Status). is_over s) (sym c.status.ensures) ∙ sym c.is_over.ensures ∙ c.if-not-is_over.true in
    record {
      within = omega (arith, size, c.in-Ok.ensures.used.1, c.loop-used.invariant.within);
      taken = taken_to (reply_by c.args.answering) c.args.self.now c.loop-used.self c.take_front.new.self piece (take (length piece - used) (drop used piece)) c.args.key c.args.out.now.items c.loop-used.out.items c.take_front.new.out.items
          c.args.events.now.items c.loop-used.events.items c.take_front.new.events.items used c.in-Ok.more rest c.loop-used.invariant.within c.in-Ok.ensures.used.1 (c.in-Ok.ensures.used.0 some) c.loop-used.invariant.taken c.in-Ok.ensures.taken;
      sending = c.in-Ok.ensures.sending ∙ c.loop-used.invariant.sending;
      over = λ over. let same = c.loop-used.invariant.over over in let both : true ≡ false = sym (ap (λ (x : SessionValue). is_over x.status) same.0 ∙ over) ∙ going in absurd cc;
    }

pub returns-else-not-is_over-clause-taken : goal.returns-else-not-is_over-clause-taken
returns-else-not-is_over-clause-taken c =
    taken_at_the_end (reply_by c.args.answering) c.args.self.now c.loop-used.self c.args.piece.now c.args.key c.args.out.now.items c.loop-used.out.items c.args.events.now.items c.loop-used.events.items c.loop-used.used
    (ap (λ (s : Status). is_over s) (sym c.status.ensures) ∙ sym c.is_over.ensures ∙ c.if-not-is_over.false) (λ i. omega (arith, c.type_inv.piece i)) c.loop-used.invariant.taken

pub returns-after-loop-used-clause-taken : goal.returns-after-loop-used-clause-taken
returns-after-loop-used-clause-taken c =
    taken_whole (reply_by c.args.answering) c.args.self.now c.loop-used.self c.args.piece.now c.args.key c.args.out.now.items c.loop-used.out.items c.args.events.now.items c.loop-used.events.items c.loop-used.used
    (omega (arith, c.loop-used-test.false)) c.loop-used.invariant.taken

pub returns-in-Err-clause-taken : goal.returns-in-Err-clause-taken
returns-in-Err-clause-taken c = let kept = c.in-Err.ensures.kept in rw (kept.0, kept.1, kept.2) c.loop-used.invariant.taken

pub take_front-requires-clause-going : goal.take_front-requires-clause-going
take_front-requires-clause-going c = ap (λ (s : Status). is_over s) (sym c.status.ensures) ∙ sym c.is_over.ensures ∙ c.if-not-is_over.true

pub returns-in-Err-clause-memory : goal.returns-in-Err-clause-memory
returns-in-Err-clause-memory c =
    let used = c.loop-used.used in
    let piece = c.args.piece.now in
    let kept = c.in-Err.ensures.kept in
    subst (λ (x : SessionValue). WantsMemoryToTell x (drop used piece)) (sym kept.0) (subst (λ (l : List ℕ). WantsMemoryToTell c.loop-used.self l) (take_rest piece used) c.in-Err.ensures.memory)
