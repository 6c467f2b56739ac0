-- What is collected of a direction, with one turn or one piece more.
use Rattle.std.proofs.Common.{◌≡◌, ◌∙◌, ℕ, zero, suc, ◌+◌, ◌<◌, ◌≤◌, ◌↔◌, max, nat_le, nat_lt, Bool, true, false, List, [], ◌∷◌, ◌++◌, length, map, take, drop, flat_map, if◌then◌else◌, is_none, Option, None, Some, ap, sym, refl, subst, arith, append_assoc, append-nil}
use Rattle.std.proofs.lemmas.Bool.Decides.{nat_tests}
use Rattle.std.proofs.lemmas.List.{length-append, length-take-le, take-append-drop, take-append-le, take_all}
use Rattle.std.specs.List.{AllByRecursion, concat, last_or}
use Rattle.std.specs.Prelude.{option_to_list}
use Rattle.ws_wire.specs.declared.role.Role.{Role}
use Rattle.ws_wire.specs.Frame.{stream_bytes}
use Rattle.ws_session.specs.declared.event.Event.{Event}
use Rattle.ws_session.specs.declared.event.PlacedEvent.{PlacedEvent}
use Rattle.ws_session.specs.declared.event.Taken.{Taken}
use Rattle.ws_session.specs.Limits.{LimitsValue}
use Rattle.ws_session.specs.Events.{HasEvents}
use Rattle.ws_session.specs.Exchange.{Exchange, SessionValue, HasExchanged}
use Rattle.ws_session.specs.Replies.{replies_by, reply_to, under_key}
use Rattle.ws_session.specs.Sends.{most_limits}
use Rattle.ws_session.specs.Taking.{HasTaken, HasTakenAll, Takes, TakesAll, ending_by, events_in}
use Rattle.ws_suite.specs.declared.evidence.InTurn.{InTurn}
use Rattle.ws_suite.specs.declared.evidence.Reply.{Reply}
use Rattle.ws_suite.specs.declared.evidence.Ending.{Ending}
use Rattle.ws_suite.specs.declared.evidence.collecting.Way.{Way}
use Rattle.ws_suite.specs.declared.evidence.collecting.Collected.{Collected}
use Rattle.ws_suite.specs.Evidence.{AreEventsByTurn, HasRest, by_turn, ending_in, joined_events}
use Rattle.ws_suite.specs.Growing.{HasTakenTurns}
use Rattle.ws_suite.specs.InnerCollecting.{AreCollected, EventLaws, HasTakenWay, at_turn, found_by, last_end}
use Rattle.ws_suite.proofs.EvidenceLemmas.{by_turn_grown, by_turn_more, events_before, events_by_turn_more, joined_events_more, joined_more, last_apart, last_joined, no_rest_is_there, rest_is_there}

-- the same but for the bytes after the last event
abbrev pub make_collected : {K : Type 0} → Collected K → Bool → Collected K
make_collected c rest = record { replies = c.replies; ending = c.ending; has_rest = rest }

-- all turns so far have all events so far
pub whole_events : (role : Role) (turns : List (List ℕ)) (events : List (List Event)) → AreEventsByTurn role turns events → HasEvents role most_limits (concat turns) (joined_events events)
whole_events role turns events are =
    subst (λ (l : List (List ℕ)). HasEvents role most_limits (concat l) (joined_events events)) (take_all (length turns) turns (omega arith))
    (subst (λ (l : List (List Event)). HasEvents role most_limits (concat (take (length turns) turns)) (joined_events l)) (take_all (length turns) events (omega (arith, are.each))) (are.so_far (length turns) (omega arith)))

-- ---- one turn more

-- the next turn has begun, in which nothing was taken yet
pub turn_begun : {K : Type 0} {keeps : K → List (InTurn Reply) → Type 0} (found : Event → List Reply) (role : Role) (turns : List (List ℕ)) (session : SessionValue) (c : Collected K)
    → HasTakenTurns keeps found role turns session c → HasTakenTurns keeps found role (turns ++ [] ∷ []) session c
turn_begun {K} {keeps} found role turns session c h = record {
  shown = h.shown;
  is_shown = record {
    events = h.is_shown.events ++ [] ∷ [];
    are_events = events_by_turn_more role turns h.is_shown.events [] [] h.is_shown.are_events
        (subst (λ (l : List ℕ). HasEvents role most_limits l (joined_events h.is_shown.events ++ [])) (sym (append-nil (concat turns)))
        (subst (λ (l : List Event). HasEvents role most_limits (concat turns) l) (sym (append-nil (joined_events h.is_shown.events))) (whole_events role turns h.is_shown.events h.is_shown.are_events)));
    replies = h.is_shown.replies ∙ same_found found;
    ending = h.is_shown.ending ∙ ap (λ (l : List (InTurn Ending)). last_or None l) (same_found ending_in);
    has_rest = subst (λ (l : List ℕ). (h.shown.has_rest ≡ true) ↔ HasRest role l (joined_events (h.is_shown.events ++ [] ∷ []))) (sym same_bytes)
        (subst (λ (l : List Event). (h.shown.has_rest ≡ true) ↔ HasRest role (concat turns) l) (sym same_events) h.is_shown.has_rest);
  };
  replies = h.replies;
  ending = h.ending;
  has_rest = h.has_rest;
  sent = h.sent;
  exchanged = subst (λ (l : List ℕ). HasExchanged session h.sent l false) (sym same_bytes) h.exchanged;
  same_role = h.same_role;
  limits = h.limits;
}
  where
    same_bytes : concat (turns ++ [] ∷ []) ≡ concat turns
    same_bytes = joined_more turns [] ∙ append-nil (concat turns)

    same_events : joined_events (h.is_shown.events ++ [] ∷ []) ≡ joined_events h.is_shown.events
    same_events = joined_events_more h.is_shown.events [] ∙ append-nil (joined_events h.is_shown.events)

    same_found : {X : Type 0} (found : Event → List X) → by_turn found 0 h.is_shown.events ≡ by_turn found 0 (h.is_shown.events ++ [] ∷ [])
    same_found found = sym (by_turn_more found 0 h.is_shown.events [] ∙ append-nil (by_turn found 0 h.is_shown.events))

-- ---- one piece more

under : (r s : Role) (l m : LimitsValue) (bytes : List ℕ) (events : List Event) → r ≡ s → l ≡ m → HasEvents r l bytes events → HasEvents s m bytes events
under r s l m bytes events e f h = subst (λ (x : Role). HasEvents x m bytes events) e (subst (λ (x : LimitsValue). HasEvents r x bytes events) f h)

rest_told : EventLaws → (role : Role) (before bytes : List ℕ) (events : List Event) (told : List PlacedEvent) → 0 < length bytes → HasEvents role most_limits before events
    → ((n : ℕ) → HasEvents role most_limits (before ++ take n bytes) (events ++ events_in (ending_by n told)))
    → ((nat_lt (last_end told) (length bytes) ≡ true) ↔ HasRest role (before ++ bytes) (events ++ events_in told))
rest_told laws role before bytes events told some has places = (
  λ e. rest_is_there role before bytes events told (grind (arith, nat_tests)) (places (last_end told)),
  λ rest. pick rest (nat_lt (last_end told) (length bytes)) refl,
)
  where
    pick : HasRest role (before ++ bytes) (events ++ events_in told) → (b : Bool) → nat_lt (last_end told) (length bytes) ≡ b → b ≡ true
    pick rest true e = refl
    pick rest false e = absurd (no_rest_is_there laws role before bytes events told some (grind (arith, nat_tests)) has places rest)

-- a piece of the last turn that the session took
module _ {K : Type 0} {keeps : List (InTurn Reply) → K → List (InTurn Reply) → Type 0} (handed : List (InTurn Reply)) (laws : EventLaws) (way : Way) (role : Role) (turns : List (List ℕ)) (last piece key x y : List ℕ) (first placed : List PlacedEvent)
    (old new : SessionValue) (a b : Collected K) (some : 0 < length piece) (empty : first ≡ []) (taken : HasTakenAll reply_to old new (record { piece = piece; key = key; before = x; after = y }) first placed)
    (h : HasTakenWay (keeps handed) way role (turns ++ last ∷ []) old a) (kept : new.role ≡ old.role) (limits : new.limits ≡ old.limits)
    (are : AreCollected keeps way (length turns) (events_in placed) (make_collected a (nat_lt (last_end placed) (length piece))) b) where
  abbrev before : List (List ℕ)
  before = turns ++ last ∷ []

  abbrev events : List (List Event)
  events = h.is_shown.events

  abbrev added : List Event
  added = events_in placed

  apart : (front : List (List Event)) × (told : List Event) × (events ≡ front ++ told ∷ [])
  apart = last_apart events (omega (arith, h.is_shown.are_events.each, length-append turns (last ∷ [])))

  abbrev front : List (List Event)
  front = apart.0

  abbrev told : List Event
  told = apart.1

  abbrev after : List (List Event)
  after = front ++ (told ++ added) ∷ []

  are_events : AreEventsByTurn role before (front ++ told ∷ [])
  are_events = subst (λ (l : List (List Event)). AreEventsByTurn role before l) apart.2 h.is_shown.are_events

  as_many : length front ≡ length turns
  as_many = omega (arith, are_events.each, length-append front (told ∷ []), length-append turns (last ∷ []))

  -- ---- what the session took

  same_placed : placed ≡ taken.told
  same_placed = taken.added ∙ ap (λ (l : List PlacedEvent). l ++ taken.told) empty

  takes : TakesAll reply_to old new (record { sent = h.sent; taken = concat before; ended = false }) (record { piece = piece; key = key; before = x; after = y }) taken.told
  takes = taken.takes (record { sent = h.sent; taken = concat before; ended = false }) refl h.exchanged

  whole : HasEvents role most_limits (concat before) (joined_events events)
  whole = whole_events role before events h.is_shown.are_events

  own : HasEvents old.role old.limits (concat before) (joined_events events)
  own = under role old.role most_limits old.limits (concat before) (joined_events events) (sym h.same_role) (sym h.limits) whole

  places : (n : ℕ) → HasEvents role most_limits (concat before ++ take n piece) (joined_events events ++ events_in (ending_by n placed))
  places n =
      subst (λ (l : List PlacedEvent). HasEvents role most_limits (concat before ++ take n piece) (joined_events events ++ events_in (ending_by n l))) (sym same_placed)
      (under old.role role old.limits most_limits (concat before ++ take n piece) (joined_events events ++ events_in (ending_by n taken.told)) h.same_role h.limits (takes.places n (joined_events events) own))

  has : HasEvents role most_limits (concat before ++ piece) (joined_events events ++ added)
  has =
      subst (λ (l : List PlacedEvent). HasEvents role most_limits (concat before ++ piece) (joined_events events ++ events_in l)) (sym same_placed)
      (under old.role role old.limits most_limits (concat before ++ piece) (joined_events events ++ events_in taken.told) h.same_role h.limits (takes.events (joined_events events) own))

  -- ---- the last turn, grown

  joined_before : joined_events events ≡ joined_events front ++ told
  joined_before = ap (λ (l : List (List Event)). joined_events l) apart.2 ∙ joined_events_more front told

  bytes_are : concat before ++ piece ≡ concat turns ++ (last ++ piece)
  bytes_are = ap (λ (l : List ℕ). l ++ piece) (joined_more turns last) ∙ append_assoc (concat turns) last piece

  events_are : joined_events events ++ added ≡ joined_events front ++ (told ++ added)
  events_are = ap (λ (l : List Event). l ++ added) joined_before ∙ append_assoc (joined_events front) told added

  grown : HasEvents role most_limits (concat turns ++ (last ++ piece)) (joined_events front ++ (told ++ added))
  grown =
      subst (λ (l : List ℕ). HasEvents role most_limits l (joined_events front ++ (told ++ added))) bytes_are
      (subst (λ (l : List Event). HasEvents role most_limits (concat before ++ piece) l) events_are has)

  all_bytes : concat (turns ++ (last ++ piece) ∷ []) ≡ concat before ++ piece
  all_bytes = joined_more turns (last ++ piece) ∙ sym bytes_are

  all_events : joined_events after ≡ joined_events events ++ added
  all_events = joined_events_more front (told ++ added) ∙ sym events_are

  more_found : {X : Type 0} (found : Event → List X) (old : List (InTurn X)) → old ≡ by_turn found 0 events → old ++ at_turn (length turns) (flat_map found added) ≡ by_turn found 0 after
  more_found {X} found old e =
      ap (λ (l : List (InTurn X)). l ++ at_turn (length turns) (flat_map found added)) (e ∙ ap (λ (l : List (List Event)). by_turn found 0 l) apart.2)
      ∙ ap (λ (n : ℕ). by_turn found 0 (front ++ told ∷ []) ++ at_turn n (flat_map found added)) (let n : length turns ≡ 0 + length front = omega (arith, as_many) in n) ∙ sym (by_turn_grown found front told added)

  pub piece_taken : HasTakenWay (keeps handed) way role (turns ++ (last ++ piece) ∷ []) new b
  piece_taken = record {
    shown = record { replies = by_turn (found_by way) 0 after; ending = last_or None (by_turn ending_in 0 after); has_rest = nat_lt (last_end placed) (length piece) };
    is_shown = record {
      events = after;
      are_events = events_by_turn_more role turns front (last ++ piece) (told ++ added) (events_before role turns front last told are_events) grown;
      replies = refl;
      ending = refl;
      has_rest =
          subst (λ (l : List ℕ). (nat_lt (last_end placed) (length piece) ≡ true) ↔ HasRest role l (joined_events after)) (sym all_bytes)
          (subst (λ (l : List Event). (nat_lt (last_end placed) (length piece) ≡ true) ↔ HasRest role (concat before ++ piece) l) (sym all_events)
          (rest_told laws role (concat before) piece (joined_events events) placed some whole places));
    };
    replies = subst (λ (l : List (InTurn Reply)). keeps handed b.replies l) (more_found (found_by way) h.shown.replies h.is_shown.replies) (are.replies handed h.shown.replies h.replies);
    ending =
        are.ending ∙ ap (λ (o : Option (InTurn Ending)). last_or o (at_turn (length turns) (flat_map ending_in added))) (h.ending ∙ h.is_shown.ending)
        ∙ sym (last_joined None (by_turn ending_in 0 events) (at_turn (length turns) (flat_map ending_in added)))
        ∙ ap (λ (l : List (InTurn Ending)). last_or None l) (more_found ending_in (by_turn ending_in 0 events) refl);
    has_rest = are.has_rest;
    sent = h.sent ++ replies_by reply_to h.sent (events_in taken.told);
    exchanged = subst (λ (l : List ℕ). HasExchanged new (h.sent ++ replies_by reply_to h.sent (events_in taken.told)) l false) (sym all_bytes) takes.agrees;
    same_role = kept ∙ h.same_role;
    limits = limits ∙ h.limits;
  }

-- ---- the front of a piece, up to its next event

-- the event, if there is one, with its place
abbrev pub placed_in : Option Event → ℕ → List PlacedEvent
placed_in None used = []
placed_in (Some event) used = record { event = event; end = used } ∷ []

events_placed : (o : Option Event) (used : ℕ) → events_in (placed_in o used) ≡ option_to_list o
events_placed None used = refl
events_placed (Some event) used = refl

placed_by : (o : Option Event) (used n : ℕ) → nat_le used n ≡ true → ending_by n (placed_in o used) ≡ placed_in o used
placed_by None used n e = refl
placed_by (Some event) used n e = ap (λ (b : Bool). if b then record { event = event; end = used } ∷ [] else []) e

placed_later : (o : Option Event) (used n : ℕ) → nat_le used n ≡ false → ending_by n (placed_in o used) ≡ []
placed_later None used n e = refl
placed_later (Some event) used n e = ap (λ (b : Bool). if b then record { event = event; end = used } ∷ [] else []) e

module _ (piece key x y : List ℕ) (old new : SessionValue) (t : Taken) (less : t.used ≤ length piece)
    (taken : HasTaken reply_to old new (record { piece = piece; key = key; before = x; after = y }) t) (same : new.role ≡ old.role) (limits : new.limits ≡ old.limits) where
  size : length (take t.used piece) ≡ t.used
  size = length-take-le t.used piece less

  within : (o : Option Event) → AllByRecursion (λ (placed : PlacedEvent). placed.end ≤ length (take t.used piece)) (placed_in o t.used)
  within None = tt
  within (Some event) = (omega (arith, size), tt)

  -- a call that takes the front takes all of it
  front_is_whole : HasTakenAll reply_to old new (record { piece = take t.used piece; key = key; before = x; after = y }) [] (placed_in t.event t.used)
  front_is_whole = record {
    told = placed_in t.event t.used;
    added = refl;
    within = within t.event;
    same = (same, limits);
    takes = λ exchange on h.
        let one = taken exchange on h in
        let events_are = sym (events_placed t.event t.used) in
        record {
          agrees = subst (λ (l : List Event). HasExchanged new (exchange.sent ++ replies_by reply_to exchange.sent l) (exchange.taken ++ take t.used piece) exchange.ended) events_are one.agrees;
          events = λ events has. subst (λ (l : List Event). HasEvents old.role old.limits (exchange.taken ++ take t.used piece) (events ++ l)) events_are (one.event events has);
          places = λ n events has. places exchange one n events has (nat_le t.used n) refl;
          put = one.put ∙ ap (λ (l : List Event). x ++ stream_bytes (map (under_key old.role key) (replies_by reply_to exchange.sent l))) events_are;
        };
  }
    where
      places : (exchange : Exchange) → Takes reply_to old new exchange (record { piece = piece; key = key; before = x; after = y }) t → (n : ℕ) (events : List Event) → HasEvents old.role old.limits exchange.taken events
          → (b : Bool) → nat_le t.used n ≡ b → HasEvents old.role old.limits (exchange.taken ++ take n (take t.used piece)) (events ++ events_in (ending_by n (placed_in t.event t.used)))
      places exchange one n events has true e =
          let all : take n (take t.used piece) ≡ take t.used piece = take_all n (take t.used piece) (let by : t.used ≤ n = grind (arith, nat_tests) in omega (arith, size, by)) in
          subst (λ (l : List ℕ). HasEvents old.role old.limits (exchange.taken ++ l) (events ++ events_in (ending_by n (placed_in t.event t.used)))) (sym all)
          (subst (λ (l : List Event). HasEvents old.role old.limits (exchange.taken ++ take t.used piece) (events ++ l))
          (sym (ap (λ (l : List PlacedEvent). events_in l) (placed_by t.event t.used n e) ∙ events_placed t.event t.used)) (one.event events has))
      places exchange one n events has false e =
          let short : n < t.used = grind (arith, nat_tests) in
          let front : take n (take t.used piece) ≡ take n piece =
          sym (take-append-le n (take t.used piece) (drop t.used piece) (omega (arith, size, short))) ∙ ap (λ (l : List ℕ). take n l) (take-append-drop t.used piece) in
          subst (λ (l : List ℕ). HasEvents old.role old.limits (exchange.taken ++ l) (events ++ events_in (ending_by n (placed_in t.event t.used)))) (sym front)
          (subst (λ (l : List Event). HasEvents old.role old.limits (exchange.taken ++ take n piece) l)
          (sym (ap (λ (l : List PlacedEvent). events ++ events_in l) (placed_later t.event t.used n e) ∙ append-nil events)) (one.least n events short has))

  rest_after : 0 < t.used → (o : Option Event) → is_none o ≡ nat_lt (last_end (placed_in o t.used)) (length (take t.used piece))
  rest_after some None = let more : 0 < length (take t.used piece) = omega (arith, size, some) in grind (arith, nat_tests, more)
  rest_after some (Some event) = let all : length (take t.used piece) ≤ max t.used 0 = omega (arith, size) in grind (arith, nat_tests, all)

  -- the front was taken and its event, if there is one, collected
  pub front_taken_too : {K : Type 0} {keeps : List (InTurn Reply) → K → List (InTurn Reply) → Type 0} (handed : List (InTurn Reply)) (laws : EventLaws) (way : Way) (role : Role) (turns : List (List ℕ)) (last : List ℕ) (a b : Collected K) → 0 < t.used
      → HasTakenWay (keeps handed) way role (turns ++ last ∷ []) old a → AreCollected keeps way (length turns) (option_to_list t.event) (make_collected a (is_none t.event)) b
      → HasTakenWay (keeps handed) way role (turns ++ (last ++ take t.used piece) ∷ []) new b
  front_taken_too {K} {keeps} handed laws way role turns last a b some h are =
      piece_taken handed laws way role turns last (take t.used piece) key x y [] (placed_in t.event t.used) old new a b (omega (arith, size, some)) refl front_is_whole h same limits
      (subst (λ (r : Bool). AreCollected keeps way (length turns) (events_in (placed_in t.event t.used)) (make_collected a r) b) (rest_after some t.event)
      (subst (λ (l : List Event). AreCollected keeps way (length turns) l (make_collected a (is_none t.event)) b) (sym (events_placed t.event t.used)) are))

-- a piece without bytes
pub nothing_taken : {K : Type 0} {keeps : K → List (InTurn Reply) → Type 0} (way : Way) (role : Role) (turns : List (List ℕ)) (last piece : List ℕ) (session : SessionValue) (c : Collected K) → piece ≡ []
    → HasTakenWay keeps way role (turns ++ last ∷ []) session c → HasTakenWay keeps way role (turns ++ (last ++ piece) ∷ []) session c
nothing_taken {K} {keeps} way role turns last piece session c none h =
    subst (λ (l : List ℕ). HasTakenWay keeps way role (turns ++ l ∷ []) session c) (sym (ap (λ (l : List ℕ). last ++ l) none ∙ append-nil last)) h

-- ---- at the start

take_none : (n : ℕ) → take {A = ℕ} n [] ≡ []
take_none zero = refl
take_none (suc n) = refl

none_after : (a b : List ℕ) (x : ℕ) → [] ≡ a ++ x ∷ b → ⊥
none_after [] b x e = absurd cc
none_after (y ∷ a) b x e = absurd cc

-- no bytes have no events
pub no_events : (role : Role) (limits : LimitsValue) → HasEvents role limits [] []
no_events role limits = record {
  frames = [];
  rest = [];
  split = record { each = tt; whole = refl; left = λ x more fits e. none_after [] _ _ e };
  fault = None;
  is_fault = λ place reason f. none_after (stream_bytes f.before) _ _ (sym (take_none place) ∙ f.parts);
  are = refl;
}

pub taken_at_start : {K : Type 0} {keeps : K → List (InTurn Reply) → Type 0} (found : Event → List Reply) (role : Role) (session : SessionValue) (c : Collected K) → keeps c.replies [] → c.ending ≡ None → c.has_rest ≡ false
    → session.role ≡ role → session.limits ≡ most_limits → HasExchanged session [] [] false → HasTakenTurns keeps found role [] session c
taken_at_start found role session c replies ending rest same limits exchanged = record {
  shown = record { replies = []; ending = None; has_rest = false };
  is_shown = record {
    events = [];
    are_events = record {
      each = refl;
      so_far = λ n less.
          let none : n ≡ 0 = omega arith in
          subst (λ (k : ℕ). HasEvents role most_limits (concat (take k [])) (joined_events (take k []))) (sym none) (no_events role most_limits);
    };
    replies = refl;
    ending = refl;
    has_rest = (λ e. absurd cc, λ r. absurd (let less : r.n < 0 = r.fewer in omega arith));
  };
  replies = replies;
  ending = ending;
  has_rest = rest;
  sent = [];
  exchanged = exchanged;
  same_role = same;
  limits = limits;
}
