-- What the session tells of the front of a piece is collected as an event of the last turn.
use Rattle.std.proofs.Common.{◌≡◌, ◌∙◌, ◌<◌, ◌++◌, Bool, ℕ, Option, None, Some, ap, subst, sym, refl, rules, length, is_none}
use Rattle.std.proofs.Common.{List, take, false}
use Rattle.std.specs.Prelude.{option_to_list}
use Rattle.ws_session.specs.Lent.{event_if_any, taken_in}
use Rattle.ws_session.specs.declared.payload_room.EventKind.{EventKind}
use Rattle.ws_suite.specs.declared.evidence.streams.Seen.{Seen}
use Rattle.ws_suite.specs.InnerCollecting.{AreCollected}
use Rattle.ws_suite.specs.InnerMarks.{HasSeenBytes, seen_if_any, seen_more}
use Rattle.ws_suite.proofs.SeenStreams.{seen_step}
use Rattle.ws_suite.proofs.TurnsCollected.{front_taken_too, make_collected}
use Rattle.ws_suite.proofs.evidence.collecting.take_front.Goals as goal

-- something is told where there is an event
as_told : (event : Option EventKind) (payload : List ℕ) → is_none event ≡ is_none (event_if_any event payload)
as_told None payload = refl
as_told (Some event) payload = refl

pub returns-clause-told : goal.returns-clause-told
returns-clause-told g c =
    let took = c.in_ok-front.ensures in
    record {
      role = took.role;
      limits = took.limits;
      events = λ sent taken exchanged events has.
          (took.taken (record { sent = sent; taken = taken; ended = false }) refl exchanged).event events has;
      exchanged = λ sent taken exchanged.
          (_, (took.taken (record { sent = sent; taken = taken; ended = false }) refl exchanged).agrees);
    }

pub returns-clause-taken : goal.returns-clause-taken
returns-clause-taken g c = λ laws handed role turns last number h.
    let front = c.in_ok-front.front in
    let payload = c.take_into.new.room in
    let told = taken_in front payload in
    let took = c.in_ok-front.ensures in
    let old = c.args.taken.now.collected in
    let new = c.collect_found.new.collected in
    let some : 0 < length c.args.piece.now = search rules in
    let none : c.is_none-taken.result ≡ is_none front.event = search rules in
    let rest = none ∙ as_told front.event payload in
    let are : AreCollected g.K.KeepsReplies.keeps c.args.way c.args.number (option_to_list told.event)
    (make_collected old c.is_none-taken.result) new = c.in_ok-collect_found.ensures.collected in
    let there = subst (λ (n : ℕ). AreCollected g.K.KeepsReplies.keeps c.args.way n (option_to_list told.event)
    (make_collected old c.is_none-taken.result) new) number are in
    let kept = subst (λ (b : Bool). AreCollected g.K.KeepsReplies.keeps c.args.way (length turns)
    (option_to_list told.event) (make_collected old b) new) rest there in
    front_taken_too c.args.piece.now _ _ _ c.args.taken.now.session c.take_into.new.self told took.used.1 took.taken took.role took.limits
    handed laws c.args.way role turns last old new (took.used.0 some) h kept

pub returns-clause-seen : goal.returns-clause-seen
returns-clause-seen g c = λ role bytes h.
    let front = c.in_ok-front.front in
    let piece = c.args.piece.now in
    let payload = c.take_into.new.room in
    let took = c.in_ok-front.ensures in
    let new = c.take_into.new.self in
    let old = c.args.taken.now.seen in
    let step = seen_step role c.args.taken.now.session new bytes piece _ _ _ old h (taken_in front payload) took.taken
    took.over front.event payload refl in
    let seen : c.collect_found.new.seen ≡ seen_if_any (seen_more old front.used) front.event =
    c.in_ok-collect_found.ensures.seen ∙ ap (λ (s : Seen). seen_if_any s front.event) c.in_ok-take.ensures in
    subst (λ (s : Seen). HasSeenBytes role new (bytes ++ take front.used piece) s) (sym seen) step
