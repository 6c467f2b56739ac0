-- Take after take of the piece, to its end or the session's: each puts what it tells behind what was told before.
use Rattle.std.proofs.Common.{◌≡◌, ◌+◌, ◌-◌, ◌<◌, ◌∙◌, ◌++◌, true, false, List, [], ℕ, ap, sym, refl, subst, arith, length, take, drop}
use Rattle.std.proofs.lemmas.List.{take_rest, length-drop}
use Rattle.ws_session.specs.declared.status.Status.{Status}
use Rattle.ws_session.specs.declared.event.PlacedEvent.{PlacedEvent}
use Rattle.ws_session.specs.Exchange.{SessionValue, is_over}
use Rattle.ws_session.specs.InnerInvariant.{HasTakenFront, placed_at, reply_by}
use Rattle.ws_session.specs.Memory.{WantsMemory}
use Rattle.ws_session.proofs.Calls.{call_of}
use Rattle.ws_session.proofs.TakenPieces.{nothing_taken, taken_to, taken_at_the_end, taken_whole}
use Rattle.ws_session.proofs.session.Session.pass_by.Goals.{then-loop-used-test+else-not-is_over, else-loop-used-test}
use Rattle.ws_session.proofs.session.Session.pass_by.Goals as goal

pub loop-used-init : goal.loop-used-init
loop-used-init c = record {
  within = omega arith;
  taken = ([], nothing_taken (reply_by c.args.answering) c.args.self.now c.args.key c.args.out.now.items []);
  sending = refl;
  over = λ over. (refl, refl);
}

pub loop-used-preserved : goal.loop-used-preserved
loop-used-preserved c =
    let used = c.loop-used.used in
    let more = c.in-Ok.taken.used in
    let piece = c.args.piece.now in
    let front = take (length piece - used) (drop used piece) in
    let rest : front ≡ drop used piece = take_rest piece used in
    let size : length front ≡ length piece - used = ap (λ (l : List ℕ). length l) rest ∙ length-drop used piece in
    let some : 0 < length front = omega (arith, size, c.loop-used-test.true) in
    let going : is_over c.loop-used.self.status ≡ false = ap (λ (s : Status). is_over s) (sym c.status.ensures) ∙ sym c.is_over.ensures ∙ c.if-not-is_over.true in
    let before : List PlacedEvent = c.loop-used.invariant.taken.0 in
    let after : List PlacedEvent = before ++ placed_at (used + more) c.take_by.new.room in
    let next : HasTakenFront (reply_by c.args.answering) c.loop-used.self c.take_by.new.self (call_of front c.args.key c.loop-used.out.items c.take_by.new.out.items) used more before after = record {
      event = c.take_by.new.room;
      added = refl;
      same = (c.in-Ok.ensures.role, c.in-Ok.ensures.limits);
      takes = c.in-Ok.ensures.taken;
    } in
    record {
      within = omega (arith, size, c.in-Ok.ensures.used.1, c.loop-used.invariant.within);
      taken = (
        after,
        taken_to (reply_by c.args.answering) c.args.self.now c.loop-used.self c.take_by.new.self piece front c.args.key c.args.out.now.items c.loop-used.out.items c.take_by.new.out.items
            [] before after used more rest c.loop-used.invariant.within c.in-Ok.ensures.used.1 (c.in-Ok.ensures.used.0 some) c.loop-used.invariant.taken.1 next,
      );
      sending = c.in-Ok.ensures.sending ∙ c.loop-used.invariant.sending;
      over = λ over. let same = c.loop-used.invariant.over over in let both : true ≡ false = sym (ap (λ (x : SessionValue). is_over x.status) same.0 ∙ over) ∙ going in absurd cc;
    }

pub returns-clause-taken : goal.returns-clause-taken
returns-clause-taken c = (
  c.loop-used.invariant.taken.0,
  elim c.loop-used-test.branch [
    | then-loop-used-test+else-not-is_over w ↦
        taken_at_the_end (reply_by c.args.answering) c.args.self.now c.loop-used.self c.args.piece.now c.args.key c.args.out.now.items c.loop-used.out.items [] c.loop-used.invariant.taken.0 c.loop-used.used
        (ap (λ (s : Status). is_over s) (sym w.status.ensures) ∙ sym w.is_over.ensures ∙ w.if-not-is_over.false) (λ i. omega (arith, c.type_inv.piece i)) c.loop-used.invariant.taken.1
    | else-loop-used-test w ↦
        taken_whole (reply_by c.args.answering) c.args.self.now c.loop-used.self c.args.piece.now c.args.key c.args.out.now.items c.loop-used.out.items [] c.loop-used.invariant.taken.0 c.loop-used.used
        (omega (arith, w.loop-used-test.false)) c.loop-used.invariant.taken.1
  ],
)

pub returns-in-Err-clause-taken : goal.returns-in-Err-clause-taken
returns-in-Err-clause-taken c = let kept = c.in-Err.ensures.kept in rw (kept.0, kept.1) c.loop-used.invariant.taken

pub returns-in-Err-clause-memory : goal.returns-in-Err-clause-memory
returns-in-Err-clause-memory c =
    let used = c.loop-used.used in
    let piece = c.args.piece.now in
    let reply = reply_by c.args.answering in
    let kept = c.in-Err.ensures.kept in
    subst (λ (x : SessionValue). WantsMemory reply x (drop used piece)) (sym kept.0) (subst (λ (l : List ℕ). WantsMemory reply c.loop-used.self l) (take_rest piece used) c.in-Err.ensures.memory)
