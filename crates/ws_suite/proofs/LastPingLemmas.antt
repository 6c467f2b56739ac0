-- The last ping that was sent: replies of the turn that has begun last, and what answers a ping of that turn.
use Rattle.std.proofs.Common.{◌≡◌, ◌∙◌, ℕ, ◌+◌, ◌<◌, ◌≤◌, nat_le, Bool, true, false, ◌&&◌, ◌||◌, if◌then◌else◌, List, [], ◌∷◌, ◌++◌, length, map, flat_map, Option, None, Some, ap, ap₂, sym, refl, subst, arith, append_assoc, append-nil, length-append}
use Rattle.std.proofs.lemmas.Bool.Decides.{nat_tests}
use Rattle.std.proofs.lemmas.List.{append_cancel_left}
use Rattle.std.proofs.lemmas.List.Elements.{filter-append}
use Rattle.std.specs.List.{AllByRecursion, concat, filter, last_or}
use Rattle.ws_wire.specs.declared.role.Role.{Role}
use Rattle.ws_session.specs.declared.event.Event.{Event}
use Rattle.ws_session.specs.Events.{HasEvents}
use Rattle.ws_session.specs.Exchange.{SessionValue}
use Rattle.ws_session.specs.Sends.{most_limits}
use Rattle.ws_suite.specs.declared.evidence.InTurn.{InTurn}
use Rattle.ws_suite.specs.declared.evidence.Reply.{Reply}
use Rattle.ws_suite.specs.declared.evidence.collecting.Collected.{Collected}
use Rattle.ws_suite.specs.declared.evidence.keeping.RunReplies.{RunReplies}
use Rattle.ws_suite.specs.declared.evidence.last_ping.LastPing.{LastPing}
use Rattle.ws_suite.specs.Evidence.{AreEventsByTurn, by_turn, joined_events}
use Rattle.ws_suite.specs.Growing.{AreKeptSince, HasTakenTurns}
use Rattle.ws_suite.specs.InnerCollecting.{EventLaws, at_turn}
use Rattle.ws_suite.specs.LastPings.{AreOfTurn, IsLastPingOf, is_due_among, pongs_since}
use Rattle.ws_suite.specs.Matching.{has_payload_of, is_pong, payload_of, pong_replies}
use Rattle.ws_suite.specs.Progress.{is_pong_owed}
use Rattle.ws_suite.proofs.EvidenceLemmas.{by_turn_grown, events_before, joined_events_more, joined_more, last_apart, last_joined}
use Rattle.ws_suite.proofs.OneVerdict.{one_by_turn}
use Rattle.ws_suite.proofs.OwedLemmas.{some_same, some_there}
use Rattle.ws_suite.proofs.TestLemmas.{all_filtered, all_so, last_of_all}
use Rattle.ws_suite.proofs.TurnsCollected.{whole_events}

-- ---- replies and their turns

all_joined : {X : Type 0} (P : X → Type 0) (xs ys : List X) → AllByRecursion P xs → AllByRecursion P ys
    → AllByRecursion P (xs ++ ys)
all_joined P [] ys a b = b
all_joined P (x ∷ xs) ys a b = (a.0, all_joined P xs ys a.1 b)

at_turn_all : (P : ℕ → Type 0) (n : ℕ) → P n → (xs : List Reply) → AllByRecursion (λ (r : InTurn Reply). P r.turn) (at_turn n xs)
at_turn_all P n p [] = tt
at_turn_all P n p (x ∷ xs) = (p, at_turn_all P n p xs)

-- of turns up to this one each reply is of an earlier one
by_turn_below : (found : Event → List Reply) (n t : ℕ) (events : List (List Event)) → t + length events ≤ n
    → AllByRecursion (λ (r : InTurn Reply). r.turn < n) (by_turn found t events)
by_turn_below found n t [] less = tt
by_turn_below found n t (told ∷ events) less = all_joined (λ (r : InTurn Reply). r.turn < n)
    (at_turn t (flat_map found told)) (by_turn found (t + 1) events)
    (at_turn_all (λ k. k < n) t (omega (arith, less)) (flat_map found told))
    (by_turn_below found n (t + 1) events (omega (arith, less)))

-- all that was handed on is of the turns that were taken
pub all_handed_on : (found : Event → List Reply) (role : Role) (turns : List (List ℕ)) (session : SessionValue)
    (c : Collected RunReplies) (handed : List (InTurn Reply)) → c.replies.fresh ≡ []
    → HasTakenTurns (AreKeptSince handed) found role turns session c
    → AllByRecursion (λ (r : InTurn Reply). r.turn < length turns) handed
all_handed_on found role turns session c handed none h =
    subst (λ (l : List (InTurn Reply)). AllByRecursion (λ (r : InTurn Reply). r.turn < length turns) l)
    (sym h.is_shown.replies ∙ (h.replies.fresh ∙ (ap (λ (l : List (InTurn Reply)). handed ++ l) none ∙ append-nil handed)))
    (by_turn_below found (length turns) 0 h.is_shown.events (omega (arith, h.is_shown.are_events.each)))

-- ---- a piece of the last turn adds replies of that turn

module _ (laws : EventLaws) (found : Event → List Reply) (role : Role) (turns : List (List ℕ)) (last bytes : List ℕ) where
  added_in_turn : (events others : List (List Event)) → AreEventsByTurn role (turns ++ last ∷ []) events
      → AreEventsByTurn role (turns ++ (last ++ bytes) ∷ []) others
      → (xs : List Reply) × (by_turn found 0 others ≡ by_turn found 0 events ++ at_turn (length turns) xs)
  added_in_turn events others are are_others =
      let (front, told, e) = last_apart events (omega (arith, are.each, length-append turns (last ∷ []))) in
      let (front2, told2, e2) = last_apart others
      (omega (arith, are_others.each, length-append turns ((last ++ bytes) ∷ []))) in
      let split = subst (λ (l : List (List Event)). AreEventsByTurn role (turns ++ last ∷ []) l) e are in
      let split2 = subst (λ (l : List (List Event)). AreEventsByTurn role (turns ++ (last ++ bytes) ∷ []) l) e2 are_others in
      let fronts = events_before role turns front last told split in
      let same : front2 ≡ front = one_by_turn laws role turns front2 front
      (events_before role turns front2 (last ++ bytes) told2 split2) fronts in
      let whole : HasEvents role most_limits (concat turns ++ last) (joined_events front ++ told) =
      subst (λ (l : List ℕ). HasEvents role most_limits l (joined_events front ++ told)) (joined_more turns last)
      (subst (λ (l : List Event). HasEvents role most_limits (concat (turns ++ last ∷ [])) l)
      (joined_events_more front told) (whole_events role (turns ++ last ∷ []) (front ++ told ∷ []) split)) in
      let whole2 : HasEvents role most_limits ((concat turns ++ last) ++ bytes) (joined_events front ++ told2) =
      subst (λ (l : List ℕ). HasEvents role most_limits l (joined_events front ++ told2))
      (joined_more turns (last ++ bytes) ∙ sym (append_assoc (concat turns) last bytes))
      (subst (λ (l : List Event). HasEvents role most_limits (concat (turns ++ (last ++ bytes) ∷ [])) l)
      (joined_events_more front2 told2 ∙ ap (λ (l : List (List Event)). joined_events l ++ told2) same)
      (whole_events role (turns ++ (last ++ bytes) ∷ []) (front2 ++ told2 ∷ []) split2)) in
      let (later, more) = laws.go_on role most_limits (concat turns ++ last) bytes (joined_events front ++ told)
      (joined_events front ++ told2) whole whole2 in
      let grown : told2 ≡ told ++ later = append_cancel_left (joined_events front) told2 (told ++ later)
      (more ∙ append_assoc (joined_events front) told later) in
      let count : 0 + length front ≡ length turns = omega (arith, fronts.each) in (
        flat_map found later,
        ap (λ (l : List (List Event)). by_turn found 0 l)
            (e2 ∙ ap₂ (λ (f : List (List Event)) (t : List Event). f ++ t ∷ []) same grown)
            ∙ (by_turn_grown found front told later
            ∙ ap₂ (λ (l : List (List Event)) (n : ℕ). by_turn found 0 l ++ at_turn n (flat_map found later)) (sym e) count),
      )

  pub fresh_in_turn : (old new : SessionValue) (a b : Collected RunReplies) (handed : List (InTurn Reply))
      → a.replies.fresh ≡ [] → HasTakenTurns (AreKeptSince handed) found role (turns ++ last ∷ []) old a
      → HasTakenTurns (AreKeptSince handed) found role (turns ++ (last ++ bytes) ∷ []) new b
      → (n : ℕ) → length turns ≡ n → AreOfTurn n b.replies.fresh
  fresh_in_turn old new a b handed none h t n count =
      let (xs, grown) = added_in_turn h.is_shown.events t.is_shown.events h.is_shown.are_events t.is_shown.are_events in
      let before : by_turn found 0 h.is_shown.events ≡ handed =
      sym h.is_shown.replies ∙ (h.replies.fresh
      ∙ (ap (λ (l : List (InTurn Reply)). handed ++ l) none ∙ append-nil handed)) in
      let fresh : b.replies.fresh ≡ at_turn (length turns) xs =
      append_cancel_left handed b.replies.fresh (at_turn (length turns) xs)
      (sym t.replies.fresh ∙ (t.is_shown.replies ∙ (grown
      ∙ ap (λ (l : List (InTurn Reply)). l ++ at_turn (length turns) xs) before))) in
      subst (λ (l : List (InTurn Reply)). AreOfTurn n l) (sym fresh)
      (at_turn_all (λ k. k ≡ n) (length turns) count xs)

-- ---- the next turn

none_from : (next : ℕ) (xs : List (InTurn Reply)) → AllByRecursion (λ (r : InTurn Reply). r.turn < next) xs
    → filter (λ (r : InTurn Reply). nat_le next r.turn) xs ≡ []
none_from next [] all = refl
none_from next (x ∷ xs) all =
    let before : nat_le next x.turn ≡ false = (let less = all.0 in grind (arith, nat_tests)) in
    ap (λ (b : Bool). if b then x ∷ filter (λ (r : InTurn Reply). nat_le next r.turn) xs else filter (λ (r : InTurn Reply). nat_le next r.turn) xs) before
    ∙ none_from next xs all.1

pub none_since : (next : ℕ) (gots : List (InTurn Reply)) → AllByRecursion (λ (r : InTurn Reply). r.turn < next) gots
    → pongs_since next gots ≡ []
none_since next gots all =
    ap (λ (l : List (InTurn Reply)). map (λ y. payload_of y.what) l) (none_from next (pong_replies gots)
    (all_filtered (λ (r : InTurn Reply). r.turn < next) (λ r. is_pong r.what) gots
    (all_so (λ (r : InTurn Reply). r.turn < next) (λ r. is_pong r.what ≡ true → r.turn < next) (λ r less is. less) gots all)))

-- ---- a ping of the last turn

both_true : (b : Bool) → (b && true) ≡ b
both_true true = refl
both_true false = refl

both_false : (b : Bool) → (b && false) ≡ false
both_false true = refl
both_false false = refl

-- a pong of this turn answers it where one that has its payload was got since the turn began
among_since : (turn : ℕ) (due : InTurn Reply) → due.turn ≡ turn → (xs : List (InTurn Reply))
    → is_pong_owed (payload_of due.what) (map (λ x. payload_of x.what) (filter (λ x. nat_le turn x.turn) xs))
    ≡ is_due_among (Some due) xs
among_since turn due e [] = refl
among_since turn due e (x ∷ xs) = pick (nat_le turn x.turn) refl (among_since turn due e xs)
  where
    since : InTurn Reply → Bool
    since y = nat_le turn y.turn

    payload : InTurn Reply → List ℕ
    payload y = payload_of y.what

    pick : (b : Bool) → nat_le turn x.turn ≡ b
        → is_pong_owed (payload_of due.what) (map payload (filter since xs)) ≡ is_due_among (Some due) xs
        → is_pong_owed (payload_of due.what) (map payload (if b then x ∷ filter since xs else filter since xs))
        ≡ ((has_payload_of x due && nat_le due.turn x.turn) || is_due_among (Some due) xs)
    pick true is later =
        ap₂ (λ (a b : Bool). a || b) (sym (ap (λ (b : Bool). has_payload_of x due && b) (ap (λ n. nat_le n x.turn) e ∙ is) ∙ both_true (has_payload_of x due))) later
    pick false is later =
        later ∙ sym (ap (λ (b : Bool). b || is_due_among (Some due) xs) (ap (λ (b : Bool). has_payload_of x due && b) (ap (λ n. nat_le n x.turn) e ∙ is) ∙ both_false (has_payload_of x due)))

none_last : {X : Type 0} (xs : List X) → last_or None xs ≡ None → xs ≡ []
none_last [] e = refl
none_last (x ∷ xs) e = absurd (never x xs e)
  where
    never : {X : Type 0} (y : X) (ys : List X) → last_or (Some y) ys ≡ None → ⊥
    never y [] f = absurd cc
    never y (z ∷ ys) f = never z ys f

last_given : {X : Type 0} (o : Option X) (xs : List X) (x : X) → last_or None xs ≡ Some x → last_or o xs ≡ Some x
last_given o [] x e = absurd cc
last_given o (y ∷ ys) x e = e

-- no pong more is due
pub none_due : (turn : ℕ) (dues gots fresh : List (InTurn Reply)) (x : LastPing)
    → last_or None (pong_replies fresh) ≡ None → IsLastPingOf turn dues gots x → IsLastPingOf turn (dues ++ fresh) gots x
none_due turn dues gots fresh x none h = record {
  due =
      h.due ∙ (ap (λ (l : List (InTurn Reply)). last_or None l) (sym (append-nil (pong_replies dues))
      ∙ (ap (λ (l : List (InTurn Reply)). pong_replies dues ++ l) (sym (none_last (pong_replies fresh) none))
      ∙ sym (filter-append (λ y. is_pong y.what) dues fresh))));
  is_answered = h.is_answered;
  in_turn = h.in_turn;
}

-- the last of those that are due more
pub ping_due : (turn : ℕ) (dues gots fresh : List (InTurn Reply)) (x : LastPing) (due : InTurn Reply) (kept : Option (InTurn Reply))
    (answered : Bool) → last_or None (pong_replies fresh) ≡ Some due → kept ≡ Some due
    → answered ≡ is_pong_owed (payload_of due.what) x.in_turn → AreOfTurn turn fresh → IsLastPingOf turn dues gots x
    → IsLastPingOf turn (dues ++ fresh) gots (record { due = kept; is_answered = answered; in_turn = x.in_turn })
ping_due turn dues gots fresh x due kept answered is same tells of_turn h = record {
  due =
      same ∙ (sym (last_given (last_or None (pong_replies dues)) (pong_replies fresh) due is)
      ∙ (sym (last_joined None (pong_replies dues) (pong_replies fresh))
      ∙ ap (λ (l : List (InTurn Reply)). last_or None l) (sym (filter-append (λ y. is_pong y.what) dues fresh))));
  is_answered =
      tells ∙ (ap (λ (l : List (List ℕ)). is_pong_owed (payload_of due.what) l) h.in_turn
      ∙ (among_since turn due due_turn (pong_replies gots)
      ∙ ap (λ (o : Option (InTurn Reply)). is_due_among o (pong_replies gots)) (sym same)));
  in_turn = h.in_turn;
}
  where
    due_turn : due.turn ≡ turn
    due_turn =
        let pongs = all_filtered (λ (r : InTurn Reply). r.turn ≡ turn) (λ r. is_pong r.what) fresh
        (all_so (λ (r : InTurn Reply). r.turn ≡ turn) (λ r. is_pong r.what ≡ true → r.turn ≡ turn) (λ r e p. e) fresh of_turn) in
        let (last, last_is, e) = last_of_all (λ (r : InTurn Reply). r.turn ≡ turn) (pong_replies fresh)
        (some_there (pong_replies fresh) due is) pongs in
        subst (λ (r : InTurn Reply). r.turn ≡ turn) (some_same last due (sym last_is ∙ is)) e
