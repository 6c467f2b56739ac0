-- A front of the piece is taken with its event at its place, or quietly, without one, where there is no room for it.
use Rattle.std.proofs.Common.{◌+◌, ◌++◌, ◌∙◌, ap, sym, subst, length, List, Option, Some, None}
use Rattle.std.proofs.lemmas.List.{append-nil}
use Rattle.ws_session.specs.declared.event.Event.{Event}
use Rattle.ws_session.specs.declared.event.PlacedEvent.{PlacedEvent}
use Rattle.ws_session.specs.Taking.{HasTaken}
use Rattle.ws_session.specs.InnerInvariant.{reply_by, placed_at}
use Rattle.ws_session.specs.Memory.{WantsMemoryToTell}
use Rattle.ws_session.proofs.Calls.{call_of}
use Rattle.ws_session.proofs.Owed.{wants_to_tell}
use Rattle.ws_session.proofs.Wants.{on_err, ok_so_of_ok}
use Rattle.ws_session.proofs.session.Session.take_front.Goals as goal

pub returns-in-Some-clause-taken : goal.returns-in-Some-clause-taken
returns-in-Some-clause-taken c =
    let used = c.in_ok-taken.taken.used in
    record {
      event = Some c.in-Some.event;
      added = c.push_reserved.ensures.items ∙ ap (λ (l : List PlacedEvent). l ++ placed_at (c.args.before + used) (Some c.in-Some.event)) c.reserve.ensures.items;
      same = (c.in_ok-taken.ensures.role, c.in_ok-taken.ensures.limits);
      takes = subst (λ (t : Option Event). HasTaken (reply_by c.args.answering) c.args.self.now c.take_by.new.self (call_of c.args.piece.now c.args.key c.args.out.now.items c.take_by.new.out.items) (record { used = used; event = t })) (sym c.event.ensures.told ∙ c.in-Some.is) c.in_ok-taken.ensures.taken;
    }

pub returns-in_default-clause-taken : goal.returns-in_default-clause-taken
returns-in_default-clause-taken c =
    let used = c.in_ok-taken.taken.used in
    record {
      event = None;
      added = c.reserve.ensures.items ∙ sym (append-nil c.args.events.now.items);
      same = (c.in_ok-taken.ensures.role, c.in_ok-taken.ensures.limits);
      takes = subst (λ (t : Option Event). HasTaken (reply_by c.args.answering) c.args.self.now c.take_by.new.self (call_of c.args.piece.now c.args.key c.args.out.now.items c.take_by.new.out.items) (record { used = used; event = t })) (sym c.event.ensures.told ∙ c.in_default.is) c.in_ok-taken.ensures.taken;
    }

pub returns-then-is_err-clause-taken : goal.returns-then-is_err-clause-taken
returns-then-is_err-clause-taken c =
    let quiet = c.take_unplaced.ensures in
    let call = call_of c.args.piece.now c.args.key c.args.out.now.items c.args.out.now.items in
    ok_so_of_ok c.take_unplaced.result _ (HasTaken (reply_by c.args.answering) c.args.self.now c.take_unplaced.new.self call (record { used = length c.args.piece.now; event = None })) _ (λ used all takes. record {
      event = None;
      added = c.reserve.ensures.items ∙ sym (append-nil c.args.events.now.items);
      same = (quiet.role, quiet.limits);
      takes = subst (λ n. HasTaken (reply_by c.args.answering) c.args.self.now c.take_unplaced.new.self call (record { used = n; event = None })) (sym all) takes;
    }) quiet.whole (quiet.taken c.args.answering c.args.key c.args.out.now.items c.requires.answering)

pub returns-in_err-taken-clause-memory : goal.returns-in_err-taken-clause-memory
returns-in_err-taken-clause-memory c =
    on_err c.from_residual.result (WantsMemoryToTell c.args.self.now c.args.piece.now) (wants_to_tell (reply_by c.args.answering) c.args.self.now c.args.piece.now c.in_err-taken.ensures.memory)
