-- The evidence of a direction, one turn or one piece more at a time.
use Rattle.std.proofs.Common.{◌≡◌, ◌≢◌, ◌∙◌, ℕ, suc, ◌+◌, ◌-◌, ◌<◌, ◌≤◌, nat_le, Bool, true, false, if◌then◌else◌, List, [], ◌∷◌, ◌++◌, length, take, drop, flat_map, Option, Some, ap, sym, refl, subst, arith, append_assoc, append-nil}
use Rattle.std.proofs.lemmas.Bool.Decides.{nat_tests}
use Rattle.std.proofs.lemmas.Grind.{flat_map-append}
use Rattle.std.proofs.lemmas.List.{length-append, map-append, take-append-drop, take-append-le, take_all}
use Rattle.std.proofs.Math.Seq.{take-append-add}
use Rattle.std.specs.List.{concat, last_or}
use Rattle.ws_wire.specs.declared.role.Role.{Role}
use Rattle.ws_session.specs.declared.event.Event.{Event}
use Rattle.ws_session.specs.declared.event.PlacedEvent.{PlacedEvent}
use Rattle.ws_session.specs.Events.{HasEvents}
use Rattle.ws_session.specs.Sends.{most_limits}
use Rattle.ws_session.specs.Taking.{ending_by, events_in}
use Rattle.ws_suite.specs.declared.evidence.InTurn.{InTurn}
use Rattle.ws_suite.specs.declared.evidence.Reply.{Reply}
use Rattle.ws_suite.specs.declared.evidence.collecting.Way.{Way}
use Rattle.ws_suite.specs.declared.evidence.collecting.Collected.{Collected}
use Rattle.ws_suite.specs.Evidence.{AreEventsByTurn, HasRest, by_turn, joined_events}
use Rattle.ws_suite.specs.InnerCollecting.{AreCollected, EventLaws, at_turn, last_end}

pub joined_more : (pieces : List (List ℕ)) (piece : List ℕ) → concat (pieces ++ piece ∷ []) ≡ concat pieces ++ piece
joined_more [] piece = append-nil piece
joined_more (x ∷ pieces) piece = ap (λ (l : List ℕ). x ++ l) (joined_more pieces piece) ∙ sym (append_assoc x (concat pieces) piece)

pub no_items : {X : Type 0} (xs : List X) → length xs ≤ 0 → xs ≡ []
no_items [] h = refl
no_items (x ∷ xs) h = absurd (omega arith)

-- ---- lists by turn

pub by_turn_more : {X : Type 0} (found : Event → List X) (turn : ℕ) (events : List (List Event)) (told : List Event) →
    by_turn found turn (events ++ told ∷ []) ≡ by_turn found turn events ++ at_turn (turn + length events) (flat_map found told)
by_turn_more {X} found turn [] told =
    append-nil (at_turn turn (flat_map found told)) ∙ ap (λ (n : ℕ). at_turn n (flat_map found told)) (let e : turn ≡ turn + 0 = omega arith in e)
by_turn_more {X} found turn (first ∷ events) told =
    let same : (turn + 1) + length events ≡ turn + suc (length events) = omega arith in
    ap (λ (l : List (InTurn X)). at_turn turn (flat_map found first) ++ l) (by_turn_more found (turn + 1) events told)
    ∙ (sym (append_assoc (at_turn turn (flat_map found first)) (by_turn found (turn + 1) events) (at_turn ((turn + 1) + length events) (flat_map found told)))
    ∙ ap (λ (n : ℕ). (at_turn turn (flat_map found first) ++ by_turn found (turn + 1) events) ++ at_turn n (flat_map found told)) same)

pub last_joined : {X : Type 0} (o : Option X) (xs ys : List X) → last_or o (xs ++ ys) ≡ last_or (last_or o xs) ys
last_joined o [] ys = refl
last_joined {X} o (x ∷ xs) ys = last_joined (Some x) xs ys

-- ---- events of one turn

pub nothing_collected : {K : Type 0} {keeps : List (InTurn Reply) → K → List (InTurn Reply) → Type 0} (way : Way) (turn : ℕ) (c : Collected K) → AreCollected keeps way turn [] c c
nothing_collected {K} {keeps} way turn c = record {
  replies = λ handed replies h. subst (λ (l : List (InTurn Reply)). keeps handed c.replies l) (sym (append-nil replies)) h;
  ending = refl;
  has_rest = refl;
}

found_twice : {X : Type 0} (found : Event → List X) (turn : ℕ) (a b : List Event) → at_turn turn (flat_map found a) ++ at_turn turn (flat_map found b) ≡ at_turn turn (flat_map found (a ++ b))
found_twice {X} found turn a b =
    sym (map-append (λ (x : X). record { turn = turn; what = x }) (flat_map found a) (flat_map found b))
    ∙ ap (λ (l : List X). at_turn turn l) (sym (flat_map-append found a b))

-- the last turn has told more events
pub by_turn_grown : {X : Type 0} (found : Event → List X) (events : List (List Event)) (told added : List Event) →
    by_turn found 0 (events ++ (told ++ added) ∷ []) ≡ by_turn found 0 (events ++ told ∷ []) ++ at_turn (0 + length events) (flat_map found added)
by_turn_grown {X} found events told added =
    let before = by_turn found 0 events in
    let n = 0 + length events in
    by_turn_more found 0 events (told ++ added) ∙ ap (λ (l : List (InTurn X)). before ++ l) (sym (found_twice found n told added))
    ∙ sym (append_assoc before (at_turn n (flat_map found told)) (at_turn n (flat_map found added)))
    ∙ ap (λ (l : List (InTurn X)). l ++ at_turn n (flat_map found added)) (sym (by_turn_more found 0 events told))

-- ---- turns

pub joined_events_more : (events : List (List Event)) (told : List Event) → joined_events (events ++ told ∷ []) ≡ joined_events events ++ told
joined_events_more events told =
    flat_map-append (λ (l : List Event). l) events (told ∷ []) ∙ ap (λ (l : List Event). joined_events events ++ l) (append-nil told)

pub events_by_turn_more : (role : Role) (turns : List (List ℕ)) (events : List (List Event)) (bytes : List ℕ) (told : List Event) → AreEventsByTurn role turns events
    → HasEvents role most_limits (concat turns ++ bytes) (joined_events events ++ told) → AreEventsByTurn role (turns ++ bytes ∷ []) (events ++ told ∷ [])
events_by_turn_more role turns events bytes told are has = record {
  each = omega (arith, are.each, length-append events (told ∷ []), length-append turns (bytes ∷ []));
  so_far = λ n less. so_far n less;
}
  where
    whole : HasEvents role most_limits (concat (turns ++ bytes ∷ [])) (joined_events (events ++ told ∷ []))
    whole =
        subst (λ (l : List ℕ). HasEvents role most_limits l (joined_events (events ++ told ∷ []))) (sym (joined_more turns bytes))
        (subst (λ (l : List Event). HasEvents role most_limits (concat turns ++ bytes) l) (sym (joined_events_more events told)) has)

    before : (n : ℕ) → n ≤ length turns → HasEvents role most_limits (concat (take n (turns ++ bytes ∷ []))) (joined_events (take n (events ++ told ∷ [])))
    before n less =
        subst (λ (l : List (List ℕ)). HasEvents role most_limits (concat l) (joined_events (take n (events ++ told ∷ [])))) (sym (take-append-le n turns (bytes ∷ []) less))
        (subst (λ (l : List (List Event)). HasEvents role most_limits (concat (take n turns)) (joined_events l)) (sym (take-append-le n events (told ∷ []) (omega (arith, are.each)))) (are.so_far n less))

    after : (n : ℕ) → length turns < n → HasEvents role most_limits (concat (take n (turns ++ bytes ∷ []))) (joined_events (take n (events ++ told ∷ [])))
    after n more =
        let all = take_all n (turns ++ bytes ∷ []) (omega (arith, length-append turns (bytes ∷ []))) in
        let all_events = take_all n (events ++ told ∷ []) (omega (arith, are.each, length-append events (told ∷ []))) in
        subst (λ (l : List (List ℕ)). HasEvents role most_limits (concat l) (joined_events (take n (events ++ told ∷ [])))) (sym all)
        (subst (λ (l : List (List Event)). HasEvents role most_limits (concat (turns ++ bytes ∷ [])) (joined_events l)) (sym all_events) whole)

    pick : (n : ℕ) (b : Bool) → nat_le n (length turns) ≡ b → HasEvents role most_limits (concat (take n (turns ++ bytes ∷ []))) (joined_events (take n (events ++ told ∷ [])))
    pick n true e = before n (grind (arith, nat_tests))
    pick n false e = after n (grind (arith, nat_tests))

    so_far : (n : ℕ) → n ≤ length (turns ++ bytes ∷ []) → HasEvents role most_limits (concat (take n (turns ++ bytes ∷ []))) (joined_events (take n (events ++ told ∷ [])))
    so_far n less = pick n (nat_le n (length turns)) refl

-- without the last turn
pub events_before : (role : Role) (turns : List (List ℕ)) (events : List (List Event)) (bytes : List ℕ) (told : List Event) → AreEventsByTurn role (turns ++ bytes ∷ []) (events ++ told ∷ [])
    → AreEventsByTurn role turns events
events_before role turns events bytes told are =
    let each : length events ≡ length turns = omega (arith, are.each, length-append events (told ∷ []), length-append turns (bytes ∷ [])) in
    record {
      each = each;
      so_far = λ n less.
          subst (λ (l : List (List ℕ)). HasEvents role most_limits (concat l) (joined_events (take n events))) (take-append-le n turns (bytes ∷ []) less)
          (subst (λ (l : List (List Event)). HasEvents role most_limits (concat (take n (turns ++ bytes ∷ []))) (joined_events l)) (take-append-le n events (told ∷ []) (omega (arith, each, less)))
          (are.so_far n (omega (arith, less, length-append turns (bytes ∷ [])))));
    }

-- the last of a list
pub last_apart : {X : Type 0} (xs : List X) → 0 < length xs → (front : List X) × (last : X) × (xs ≡ front ++ last ∷ [])
last_apart [] h = absurd (omega arith)
last_apart {X} (x ∷ []) h = ([], x, refl)
last_apart {X} (x ∷ y ∷ xs) h =
    let (front, last, e) = last_apart (y ∷ xs) (omega arith) in
    (x ∷ front, last, ap (λ (l : List X). x ∷ l) e)

-- ---- bytes after the last event

pub all_end_by : (n : ℕ) (told : List PlacedEvent) → last_end told ≤ n → ending_by n told ≡ told
all_end_by n [] less = refl
all_end_by n (x ∷ told) less = pick (all_end_by n told (omega arith)) (nat_le x.end n) refl
  where
    pick : ending_by n told ≡ told → (b : Bool) → nat_le x.end n ≡ b → (if b then x ∷ ending_by n told else []) ≡ x ∷ told
    pick later true e = ap (λ (l : List PlacedEvent). x ∷ l) later
    pick later false e = absurd (let wrong : n < x.end = grind (arith, nat_tests) in omega arith)

pub some_end_later : (n : ℕ) (told : List PlacedEvent) → n < last_end told → length (ending_by n told) < length told
some_end_later n [] more = absurd (omega arith)
some_end_later n (x ∷ told) more = pick (λ less. some_end_later n told less) (nat_le x.end n) refl
  where
    pick : (n < last_end told → length (ending_by n told) < length told) → (b : Bool) → nat_le x.end n ≡ b → length (if b then x ∷ ending_by n told else []) < suc (length told)
    pick later true e =
        let less : x.end ≤ n = grind (arith, nat_tests) in
        let rest : length (ending_by n told) < length told = later (omega arith) in
        omega arith
    pick later false e = omega arith

events_length : (told : List PlacedEvent) → length (events_in told) ≡ length told
events_length [] = refl
events_length (x ∷ told) = ap suc (events_length told)

-- the last event ends before the last byte
pub rest_is_there : (role : Role) (before bytes : List ℕ) (events : List Event) (told : List PlacedEvent) → last_end told < length bytes
    → HasEvents role most_limits (before ++ take (last_end told) bytes) (events ++ events_in (ending_by (last_end told) told)) → HasRest role (before ++ bytes) (events ++ events_in told)
rest_is_there role before bytes events told less has = record {
  n = length before + last_end told;
  fewer = omega (arith, length-append before bytes);
  same = subst (λ (l : List ℕ). HasEvents role most_limits l (events ++ events_in told)) (sym (take-append-add before bytes (last_end told)))
      (subst (λ (l : List PlacedEvent). HasEvents role most_limits (before ++ take (last_end told) bytes) (events ++ events_in l)) (all_end_by (last_end told) told (omega arith)) has);
}

-- it ends with the last byte: then no fewer bytes tell it
pub no_rest_is_there : EventLaws → (role : Role) (before bytes : List ℕ) (events : List Event) (told : List PlacedEvent) → 0 < length bytes → length bytes ≤ last_end told
    → HasEvents role most_limits before events
    → ((n : ℕ) → HasEvents role most_limits (before ++ take n bytes) (events ++ events_in (ending_by n told)))
    → HasRest role (before ++ bytes) (events ++ events_in told) → ⊥
no_rest_is_there laws role before bytes events told some ends has places rest = pick (nat_le (length before) rest.n) refl
  where
    there : length told ≢ 0
    there e = none told e ends
      where
        none : (l : List PlacedEvent) → length l ≡ 0 → length bytes ≤ last_end l → ⊥
        none [] f g = omega arith
        none (x ∷ l) f g = absurd (omega arith)

    inside : length before ≤ rest.n → ⊥
    inside less =
        let k = rest.n - length before in
        let same : rest.n ≡ length before + k = omega arith in
        let short : k < length bytes = omega (arith, rest.fewer, length-append before bytes) in
        let at : HasEvents role most_limits (before ++ take k bytes) (events ++ events_in told) =
        subst (λ (l : List ℕ). HasEvents role most_limits l (events ++ events_in told)) (ap (λ (n : ℕ). take n (before ++ bytes)) same ∙ take-append-add before bytes k) rest.same in
        let one = laws.one_list role most_limits (before ++ take k bytes) (events ++ events_in told) (events ++ events_in (ending_by k told)) at (places k) in
        omega (arith, ap (λ (l : List Event). length l) one, length-append events (events_in told), length-append events (events_in (ending_by k told)), events_length told, events_length (ending_by k told), some_end_later k told (omega arith))

    outside : rest.n < length before → ⊥
    outside less =
        let front : take rest.n (before ++ bytes) ≡ take rest.n before = take-append-le rest.n before bytes (omega arith) in
        let at : HasEvents role most_limits (take rest.n before) (events ++ events_in told) = subst (λ (l : List ℕ). HasEvents role most_limits l (events ++ events_in told)) front rest.same in
        let whole : HasEvents role most_limits (take rest.n before ++ drop rest.n before) events = subst (λ (l : List ℕ). HasEvents role most_limits l events) (sym (take-append-drop rest.n before)) has in
        let (later, e) = laws.go_on role most_limits (take rest.n before) (drop rest.n before) (events ++ events_in told) events at whole in
        there (omega (arith, ap (λ (l : List Event). length l) e, length-append (events ++ events_in told) later, length-append events (events_in told), events_length told))

    pick : (b : Bool) → nat_le (length before) rest.n ≡ b → ⊥
    pick true e = inside (grind (arith, nat_tests))
    pick false e = outside (grind (arith, nat_tests))
