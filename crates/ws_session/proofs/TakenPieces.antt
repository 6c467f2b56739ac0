-- A piece that is taken front by front.
use Rattle.std.proofs.Common.{◌≡◌, ℕ, ◌+◌, ◌-◌, ◌<◌, ◌≤◌, true, false, List, [], ◌++◌, length, take, drop, None, refl, sym, ap, ◌∙◌, append_assoc, arith, inl, inr, subst}
use Rattle.std.specs.Prelude.{map, option_to_list}
use Rattle.std.proofs.lemmas.Bool.{cases_lt}
use Rattle.std.proofs.lemmas.List.{length-append, append-nil, take-append-le, take-take, drop-take, take-append-drop, length-take-le, take_all}
use Rattle.ws_wire.specs.declared.role.Role.{Role}
use Rattle.ws_wire.specs.Header.{AreBytes}
use Rattle.ws_wire.specs.Frame.{Frame, stream_bytes}
use Rattle.ws_wire.proofs.Numbers.{front_bytes}
use Rattle.ws_session.specs.declared.event.Event.{Event}
use Rattle.ws_session.specs.declared.event.PlacedEvent.{PlacedEvent}
use Rattle.ws_session.specs.declared.status.Status.TheVariants as status
use Rattle.ws_session.specs.Events.{HasEvents}
use Rattle.ws_session.specs.Replies.{replies_by, under_key}
use Rattle.ws_session.specs.Exchange.{SessionValue, Exchange, HasExchanged, is_over}
use Rattle.ws_session.specs.Taking.{TakeCall, Takes, HasTaken, events_in, ending_by, TakesAll, HasTakenAll}
use Rattle.ws_session.specs.InnerInvariant.{placed_at, HasTakenFront}
use Rattle.ws_session.proofs.Calls.{exchange_of, call_of}
use Rattle.ws_session.proofs.ByteLists.{back_are_bytes}
use Rattle.ws_session.proofs.Over.{over_events, over_agrees, not_lost, replies_by-append}
use Rattle.ws_session.proofs.StatusReplies.{no_replies}
use Rattle.ws_session.proofs.PlacedEvents.{EndWithin, all_ending, at_session, back_to, events_with, none_later, placed_within, put_more, take_past, within_append, within_more}

-- ---- a call of a session that is over

takes_over : (reply : Event → List Frame) (old : SessionValue) (exchange : Exchange) (call : TakeCall) → HasExchanged old exchange.sent exchange.taken exchange.ended → (is_over old.status ≡ true) → (old.status ≡ status.Lost → ⊥) → AreBytes call.piece
    → call.after ≡ call.before → Takes reply old old exchange call (record { used = length call.piece; event = None })
takes_over reply old exchange call h over lost bytes put =
    let all : take (length call.piece) call.piece ≡ call.piece = take_all (length call.piece) call.piece (omega arith) in
    let front : (n : ℕ) → AreBytes (take n call.piece) = λ n. front_bytes n call.piece bytes in
    let none : replies_by reply exchange.sent [] ≡ [] = no_replies reply exchange.sent in
    record {
      used = omega arith;
      agrees = subst (λ (l : List Frame). HasExchanged old l (exchange.taken ++ take (length call.piece) call.piece) exchange.ended) (sym (ap (λ (l : List Frame). exchange.sent ++ l) none ∙ append-nil exchange.sent))
          (over_agrees old exchange.sent exchange.taken (take (length call.piece) call.piece) exchange.ended h over lost (front (length call.piece)));
      event = λ es has. subst (λ (l : List Event). HasEvents old.role old.limits (exchange.taken ++ take (length call.piece) call.piece) l) (sym (append-nil es))
          (over_events old exchange.sent exchange.taken (take (length call.piece) call.piece) exchange.ended h over lost (front (length call.piece)) es has);
      least = λ n es lt has. over_events old exchange.sent exchange.taken (take n call.piece) exchange.ended h over lost (front n) es has;
      whole = λ e. refl;
      put = put ∙ sym (append-nil call.before) ∙ ap (λ (l : List Frame). call.before ++ stream_bytes (map (under_key old.role call.key) l)) (sym none);
      same = (refl, refl);
    }

open_not_lost : (v : SessionValue) (exchange : Exchange) → exchange.ended ≡ false → HasExchanged v exchange.sent exchange.taken exchange.ended → v.status ≡ status.Lost → ⊥
open_not_lost v exchange unended h = not_lost v exchange.sent exchange.taken (subst (λ b. HasExchanged v exchange.sent exchange.taken b) unended h)

pub taken_over : (reply : Event → List Frame) (old : SessionValue) (call : TakeCall) → is_over old.status ≡ true → AreBytes call.piece → call.after ≡ call.before → HasTaken reply old old call (record { used = length call.piece; event = None })
taken_over reply old call over bytes put exchange unended h = takes_over reply old exchange call h over (open_not_lost old exchange unended h) bytes put

-- ---- nothing of a piece

pub nothing_taken : (reply : Event → List Frame) (v : SessionValue) (key put : List ℕ) (told : List PlacedEvent) → HasTakenAll reply v v (call_of [] key put put) told told
nothing_taken reply v key put told = record {
  told = [];
  added = sym (append-nil told);
  within = tt;
  same = (refl, refl);
  takes = λ exchange unended h.
      let none : replies_by reply exchange.sent [] ≡ [] = no_replies reply exchange.sent in
      let same : (l : List ℕ) → l ≡ [] → exchange.taken ≡ exchange.taken ++ l = λ l e. sym (append-nil exchange.taken) ∙ ap (λ (k : List ℕ). exchange.taken ++ k) (sym e) in
      let stay : (l : List ℕ) (es : List Event) → l ≡ [] → HasEvents v.role v.limits exchange.taken es → HasEvents v.role v.limits (exchange.taken ++ l) (es ++ []) = λ l es e has.
      subst (λ (k : List Event). HasEvents v.role v.limits (exchange.taken ++ l) k) (sym (append-nil es)) (subst (λ (k : List ℕ). HasEvents v.role v.limits k es) (same l e) has) in
      record {
        agrees = subst (λ (l : List Frame). HasExchanged v l (exchange.taken ++ []) exchange.ended) (sym (ap (λ (l : List Frame). exchange.sent ++ l) none ∙ append-nil exchange.sent))
            (subst (λ (l : List ℕ). HasExchanged v exchange.sent l exchange.ended) (same [] refl) h);
        events = λ es has. stay [] es refl has;
        places = λ n es has. stay (take n []) es (take_all n [] (omega arith)) has;
        put = sym (append-nil put) ∙ ap (λ (l : List Frame). put ++ stream_bytes (map (under_key v.role key) l)) (sym none);
      };
}

-- ---- one more front

module _ (reply : Event → List Frame) (old mid new : SessionValue) (front rest key before middle after : List ℕ) (told_before told_mid told_after : List PlacedEvent) (used : ℕ)
    (so_far : HasTakenAll reply old mid (call_of front key before middle) told_before told_mid)
    (next : HasTakenFront reply mid new (call_of rest key middle after) (length front) used told_mid told_after) (le : used ≤ length rest) (some : 0 < used) where
  abbrev part : List ℕ
  part = take used rest

  abbrev end : ℕ
  end = length front + used

  abbrev told : List PlacedEvent
  told = so_far.told ++ placed_at end next.event

  size : length (front ++ part) ≡ end
  size = length-append front (take used rest) ∙ ap (λ k. length front + k) (length-take-le used rest le)

  all_within : EndWithin end told
  all_within = within_append end so_far.told (placed_at end next.event) (within_more (length front) end so_far.told (omega arith) so_far.within) (placed_within end next.event)

  module _ (exchange : Exchange) (unended : exchange.ended ≡ false) (h : HasExchanged old exchange.sent exchange.taken exchange.ended) where
    abbrev first : List Frame
    first = replies_by reply exchange.sent (events_in so_far.told)

    abbrev second : List Frame
    second = replies_by reply (exchange.sent ++ first) (option_to_list next.event)

    t : TakesAll reply old mid exchange (call_of front key before middle) so_far.told
    t = so_far.takes exchange unended h

    u : Takes reply mid new (exchange_of (exchange.sent ++ first) (exchange.taken ++ front) exchange.ended) (call_of rest key middle after) (record { used = used; event = next.event })
    u = next.takes (exchange_of (exchange.sent ++ first) (exchange.taken ++ front) exchange.ended) unended t.agrees

    owed : replies_by reply exchange.sent (events_in told) ≡ first ++ second
    owed = ap (λ (l : List Event). replies_by reply exchange.sent l) (events_with so_far.told end next.event) ∙ replies_by-append reply exchange.sent (events_in so_far.told) (option_to_list next.event)

    taken_is : exchange.taken ++ (front ++ part) ≡ (exchange.taken ++ front) ++ part
    taken_is = sym (append_assoc exchange.taken front part)

    events_are : (es : List Event) → es ++ events_in told ≡ (es ++ events_in so_far.told) ++ option_to_list next.event
    events_are es = ap (λ (l : List Event). es ++ l) (events_with so_far.told end next.event) ∙ sym (append_assoc es (events_in so_far.told) (option_to_list next.event))

    so_far_events : (es : List Event) → HasEvents old.role old.limits exchange.taken es → HasEvents mid.role mid.limits (exchange.taken ++ front) (es ++ events_in so_far.told)
    so_far_events es has = at_session old mid so_far.same (exchange.taken ++ front) (es ++ events_in so_far.told) (t.events es has)

    all_events : (es : List Event) → HasEvents old.role old.limits exchange.taken es → HasEvents old.role old.limits (exchange.taken ++ (front ++ part)) (es ++ events_in told)
    all_events es has =
        subst (λ (l : List ℕ). HasEvents old.role old.limits l (es ++ events_in told)) (sym taken_is)
        (subst (λ (l : List Event). HasEvents old.role old.limits ((exchange.taken ++ front) ++ part) l) (sym (events_are es))
        (back_to old mid so_far.same ((exchange.taken ++ front) ++ part) ((es ++ events_in so_far.told) ++ option_to_list next.event) (u.event (es ++ events_in so_far.told) (so_far_events es has))))

    -- where the front does not reach the end of this part
    short_of : (n : ℕ) → n < end → events_in (ending_by n told) ≡ events_in (ending_by n so_far.told)
    short_of n lt = ap (λ (l : List PlacedEvent). events_in l) (none_later n so_far.told end next.event lt)

    inside : (n : ℕ) (es : List Event) → n < end → length front < n → HasEvents old.role old.limits exchange.taken es → HasEvents old.role old.limits (exchange.taken ++ take n (front ++ part)) (es ++ events_in (ending_by n told))
    inside n es lt late has =
        let all : ending_by n so_far.told ≡ so_far.told = all_ending n so_far.told (within_more (length front) n so_far.told (omega arith) so_far.within) in
        let events : events_in (ending_by n told) ≡ events_in so_far.told = short_of n lt ∙ ap (λ (l : List PlacedEvent). events_in l) all in
        let bytes : exchange.taken ++ take n (front ++ take used rest) ≡ (exchange.taken ++ front) ++ take (n - length front) rest =
        ap (λ (l : List ℕ). exchange.taken ++ l) (take_past front (take used rest) n late ∙ ap (λ (l : List ℕ). front ++ l) (take-take (n - length front) used rest (omega arith))) ∙ sym (append_assoc exchange.taken front (take (n - length front) rest)) in
        subst (λ (l : List Event). HasEvents old.role old.limits (exchange.taken ++ take n (front ++ take used rest)) (es ++ l)) (sym events)
        (subst (λ (l : List ℕ). HasEvents old.role old.limits l (es ++ events_in so_far.told)) (sym bytes)
        (back_to old mid so_far.same ((exchange.taken ++ front) ++ take (n - length front) rest) (es ++ events_in so_far.told) (u.least (n - length front) (es ++ events_in so_far.told) (omega arith) (so_far_events es has))))

    before_it : (n : ℕ) (es : List Event) → n ≤ length front → HasEvents old.role old.limits exchange.taken es → HasEvents old.role old.limits (exchange.taken ++ take n (front ++ part)) (es ++ events_in (ending_by n told))
    before_it n es le has =
        subst (λ (l : List Event). HasEvents old.role old.limits (exchange.taken ++ take n (front ++ part)) (es ++ l)) (sym (short_of n (omega arith)))
        (subst (λ (l : List ℕ). HasEvents old.role old.limits (exchange.taken ++ l) (es ++ events_in (ending_by n so_far.told))) (sym (take-append-le n front part le)) (t.places n es has))

    behind_it : (n : ℕ) (es : List Event) → end ≤ n → HasEvents old.role old.limits exchange.taken es → HasEvents old.role old.limits (exchange.taken ++ take n (front ++ part)) (es ++ events_in (ending_by n told))
    behind_it n es le has =
        subst (λ (l : List PlacedEvent). HasEvents old.role old.limits (exchange.taken ++ take n (front ++ part)) (es ++ events_in l)) (sym (all_ending n told (within_more end n told le all_within)))
        (subst (λ (l : List ℕ). HasEvents old.role old.limits (exchange.taken ++ l) (es ++ events_in told)) (sym (take_all n (front ++ part) (omega (arith, size)))) (all_events es has))

    all_places : (n : ℕ) (es : List Event) → HasEvents old.role old.limits exchange.taken es → HasEvents old.role old.limits (exchange.taken ++ take n (front ++ part)) (es ++ events_in (ending_by n told))
    all_places n es has =
        elim (cases_lt n end) [
          | inr le ↦ behind_it n es le has
          | inl lt ↦ elim (cases_lt (length front) n) [
            | inl late ↦ inside n es lt late has
            | inr le ↦ before_it n es le has
          ]
        ]

    all_put : after ≡ before ++ stream_bytes (map (under_key old.role key) (replies_by reply exchange.sent (events_in told)))
    all_put =
        u.put ∙ ap (λ (k : Role). middle ++ stream_bytes (map (under_key k key) second)) so_far.same.0 ∙ ap (λ (l : List ℕ). l ++ stream_bytes (map (under_key old.role key) second)) t.put
        ∙ append_assoc before (stream_bytes (map (under_key old.role key) first)) (stream_bytes (map (under_key old.role key) second)) ∙ ap (λ (l : List ℕ). before ++ l) (sym (put_more old.role key first second))
        ∙ ap (λ (l : List Frame). before ++ stream_bytes (map (under_key old.role key) l)) (sym owed)

    all_agrees : HasExchanged new (exchange.sent ++ replies_by reply exchange.sent (events_in told)) (exchange.taken ++ (front ++ part)) exchange.ended
    all_agrees =
        subst (λ (l : List Frame). HasExchanged new l (exchange.taken ++ (front ++ part)) exchange.ended) (append_assoc exchange.sent first second ∙ ap (λ (l : List Frame). exchange.sent ++ l) (sym owed))
        (subst (λ (l : List ℕ). HasExchanged new ((exchange.sent ++ first) ++ second) l exchange.ended) (sym taken_is) u.agrees)

  pub more_taken : HasTakenAll reply old new (call_of (front ++ take used rest) key before after) told_before told_after
  more_taken = record {
    told = told;
    added = next.added ∙ ap (λ (l : List PlacedEvent). l ++ placed_at (length front + used) next.event) so_far.added ∙ append_assoc told_before so_far.told (placed_at (length front + used) next.event);
    within = subst (λ n. EndWithin n told) (sym size) all_within;
    same = (next.same.0 ∙ so_far.same.0, next.same.1 ∙ so_far.same.1);
    takes = λ exchange unended h. record {
      agrees = all_agrees exchange unended h;
      events = all_events exchange unended h;
      places = all_places exchange unended h;
      put = all_put exchange unended h;
    };
  }

-- ---- bytes behind the end

module _ (reply : Event → List Frame) (old new : SessionValue) (front rest key before after : List ℕ) (told_before told_after : List PlacedEvent)
    (so_far : HasTakenAll reply old new (call_of front key before after) told_before told_after) (over : is_over new.status ≡ true) (bytes : AreBytes rest) where
  module _ (exchange : Exchange) (unended : exchange.ended ≡ false) (h : HasExchanged old exchange.sent exchange.taken exchange.ended) where
    abbrev sent_now : List Frame
    sent_now = exchange.sent ++ replies_by reply exchange.sent (events_in so_far.told)

    all : TakesAll reply old new exchange (call_of front key before after) so_far.told
    all = so_far.takes exchange unended h

    agrees_now : HasExchanged new sent_now (exchange.taken ++ front) exchange.ended
    agrees_now = all.agrees

    going : new.status ≡ status.Lost → ⊥
    going = open_not_lost new (exchange_of sent_now (exchange.taken ++ front) exchange.ended) unended agrees_now

    still : (more : List ℕ) → AreBytes more → (es : List Event) → HasEvents old.role old.limits exchange.taken es → HasEvents old.role old.limits (exchange.taken ++ (front ++ more)) (es ++ events_in so_far.told)
    still more are es has =
        subst (λ (l : List ℕ). HasEvents old.role old.limits l (es ++ events_in so_far.told)) (append_assoc exchange.taken front more)
        (back_to old new so_far.same ((exchange.taken ++ front) ++ more) (es ++ events_in so_far.told)
        (over_events new sent_now (exchange.taken ++ front) more exchange.ended agrees_now over going are (es ++ events_in so_far.told)
        (at_session old new so_far.same (exchange.taken ++ front) (es ++ events_in so_far.told) (all.events es has))))

    still_places : (n : ℕ) (es : List Event) → HasEvents old.role old.limits exchange.taken es → HasEvents old.role old.limits (exchange.taken ++ take n (front ++ rest)) (es ++ events_in (ending_by n so_far.told))
    still_places n es has =
        elim (cases_lt (length front) n) [
          | inr le ↦ subst (λ (l : List ℕ). HasEvents old.role old.limits (exchange.taken ++ l) (es ++ events_in (ending_by n so_far.told))) (sym (take-append-le n front rest le)) (all.places n es has)
          | inl late ↦
              subst (λ (l : List PlacedEvent). HasEvents old.role old.limits (exchange.taken ++ take n (front ++ rest)) (es ++ events_in l)) (sym (all_ending n so_far.told (within_more (length front) n so_far.told (omega arith) so_far.within)))
              (subst (λ (l : List ℕ). HasEvents old.role old.limits (exchange.taken ++ l) (es ++ events_in so_far.told)) (sym (take_past front rest n late)) (still (take (n - length front) rest) (front_bytes (n - length front) rest bytes) es has))
        ]

    still_agrees : HasExchanged new (exchange.sent ++ replies_by reply exchange.sent (events_in so_far.told)) (exchange.taken ++ (front ++ rest)) exchange.ended
    still_agrees =
        subst (λ (l : List ℕ). HasExchanged new sent_now l exchange.ended) (append_assoc exchange.taken front rest) (over_agrees new sent_now (exchange.taken ++ front) rest exchange.ended agrees_now over going bytes)

  pub taken_behind_the_end : HasTakenAll reply old new (call_of (front ++ rest) key before after) told_before told_after
  taken_behind_the_end = record {
    told = so_far.told;
    added = so_far.added;
    within = within_more (length front) (length (front ++ rest)) so_far.told (omega (arith, length-append front rest)) so_far.within;
    same = so_far.same;
    takes = λ exchange unended h. record {
      agrees = still_agrees exchange unended h;
      events = still exchange unended h rest bytes;
      places = still_places exchange unended h;
      put = let t = so_far.takes exchange unended h in t.put;
    };
  }

-- ---- a piece by its numbers

take_parts : (n m : ℕ) (l : List ℕ) → take n l ++ take m (drop n l) ≡ take (n + m) l
take_parts n m l = ap (λ (k : List ℕ). k ++ take m (drop n l)) (sym (take-take n (n + m) l (omega arith))) ∙ ap (λ (k : List ℕ). take n (take (n + m) l) ++ k) (sym (drop-take n m l)) ∙ take-append-drop n (take (n + m) l)

-- the next so many bytes
pub taken_to : (reply : Event → List Frame) (old mid new : SessionValue) (piece rest key before middle after : List ℕ) (told_before told_mid told_after : List PlacedEvent) (n m : ℕ) → rest ≡ drop n piece → n ≤ length piece → m ≤ length rest → 0 < m
    → HasTakenAll reply old mid (call_of (take n piece) key before middle) told_before told_mid → HasTakenFront reply mid new (call_of rest key middle after) n m told_mid told_after → HasTakenAll reply old new (call_of (take (n + m) piece) key before after) told_before told_after
taken_to reply old mid new piece rest key before middle after told_before told_mid told_after n m is within le some so_far next =
    let size : length (take n piece) ≡ n = length-take-le n piece within in
    let here : HasTakenFront reply mid new (call_of rest key middle after) (length (take n piece)) m told_mid told_after = subst (λ k. HasTakenFront reply mid new (call_of rest key middle after) k m told_mid told_after) (sym size) next in
    subst (λ (l : List ℕ). HasTakenAll reply old new (call_of l key before after) told_before told_after) (ap (λ (l : List ℕ). take n piece ++ take m l) is ∙ take_parts n m piece)
    (more_taken reply old mid new (take n piece) rest key before middle after told_before told_mid told_after m so_far here le some)

-- the session is over
pub taken_at_the_end : (reply : Event → List Frame) (old new : SessionValue) (piece key before after : List ℕ) (told_before told_after : List PlacedEvent) (n : ℕ) → is_over new.status ≡ true → AreBytes piece
    → HasTakenAll reply old new (call_of (take n piece) key before after) told_before told_after → HasTakenAll reply old new (call_of piece key before after) told_before told_after
taken_at_the_end reply old new piece key before after told_before told_after n over are so_far =
    let rest : AreBytes (drop n piece) = back_are_bytes (take n piece) (drop n piece) (subst (λ (l : List ℕ). AreBytes l) (sym (take-append-drop n piece)) are) in
    subst (λ (l : List ℕ). HasTakenAll reply old new (call_of l key before after) told_before told_after) (take-append-drop n piece)
    (taken_behind_the_end reply old new (take n piece) (drop n piece) key before after told_before told_after so_far over rest)

-- the piece is
pub taken_whole : (reply : Event → List Frame) (old new : SessionValue) (piece key before after : List ℕ) (told_before told_after : List PlacedEvent) (n : ℕ) → length piece ≤ n
    → HasTakenAll reply old new (call_of (take n piece) key before after) told_before told_after → HasTakenAll reply old new (call_of piece key before after) told_before told_after
taken_whole reply old new piece key before after told_before told_after n le so_far =
    subst (λ (l : List ℕ). HasTakenAll reply old new (call_of l key before after) told_before told_after) (take_all n piece le) so_far
