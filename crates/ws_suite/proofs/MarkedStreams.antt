-- The marks of a connection, and the close that counts, by what is told of the streams of both directions.
use Rattle.std.proofs.Common.{◌≡◌, ◌≢◌, ◌∙◌, ◌↔◌, ℕ, zero, suc, ◌+◌, ◌-◌, ◌≤◌, Bool, true, List, [], ◌∷◌, ◌++◌, length}
use Rattle.std.proofs.Common.{take, drop, map, flat_map, Option, None, Some, ap, sym, refl, subst, inl, inr, arith}
use Rattle.std.proofs.lemmas.Grind.{flat_map-append}
use Rattle.std.proofs.lemmas.List.{length-append, length-drop, map-append}
use Rattle.std.proofs.Math.ListN.{drop_of_length-le}
use Rattle.std.specs.List.{concat, last_or}
use Rattle.std.specs.Prelude.{MatchOption}
use Rattle.ws_wire.specs.declared.role.Role.{Role}
use Rattle.ws_session.specs.declared.event.Event.{Event}
use Rattle.ws_session.specs.declared.event.Event.TheVariants as event
use Rattle.ws_session.specs.declared.reason.Reason.{Reason}
use Rattle.ws_session.specs.declared.reason.Reason.TheVariants.{CloseCode}
use Rattle.ws_session.specs.Events.{HasEvents, IsFaultOf, ending_before, events_after, events_of, through_close}
use Rattle.ws_session.specs.Faults.{IsFirstFault, frames_of}
use Rattle.ws_session.specs.Sends.{most_limits}
use Rattle.ws_session.proofs.EventsGoOn.{one_events}
use Rattle.ws_session.proofs.Faults.{one_fault}
use Rattle.ws_scripts.specs.declared.transcript.Transcript.{Transcript}
use Rattle.ws_suite.specs.declared.evidence.InTurn.{InTurn}
use Rattle.ws_suite.specs.declared.evidence.Ending.{Ending}
use Rattle.ws_suite.specs.declared.evidence.Ending.TheVariants.{Failed}
use Rattle.ws_suite.specs.declared.evidence.Evidence.{Evidence}
use Rattle.ws_suite.specs.declared.evidence.marks.Marks.{Marks}
use Rattle.ws_suite.specs.declared.evidence.streams.Seen.{Seen}
use Rattle.ws_suite.specs.Evidence.{HoldsByte, by_turn, ending_in, got_turns, joined_events, other_role, sent_turns}
use Rattle.ws_suite.specs.Explanation.{IsBeyondClose}
use Rattle.ws_suite.specs.InnerCollecting.{at_turn}
use Rattle.ws_suite.specs.InnerMarks.{IsEndingByTurn, IsSeen, IsTurnOfPlace, closed_with, evidence_closed}
use Rattle.ws_suite.specs.InnerMarks.{left_open}
use Rattle.ws_suite.specs.Marks.{AreControls, AreMarksOf, CountsUndefinedCode, EndsInDataFrame, FailsByUndefinedCode}
use Rattle.ws_suite.specs.Marks.{HasControlsBehind, HasOpenMessage, HasUndefinedCodeCounted, HoldData, IsLate}
use Rattle.ws_suite.specs.Marks.{StandBehind, leaves_open}
use Rattle.ws_suite.specs.Matching.{ends_with_close}
use Rattle.ws_suite.proofs.EvidenceLemmas.{last_joined}
use Rattle.ws_suite.proofs.StreamEndLemmas.{one_behind}
use Rattle.ws_suite.proofs.TurnsCollected.{whole_events}

-- ---- what is told of the bytes of one direction

-- something came where there is a last
some_last : (b : Bool) (xs : List Bool) → last_or (Some b) xs ≡ None → ⊥
some_last b [] e = absurd cc
some_last b (x ∷ xs) e = some_last x xs e

some_came : (xs : List Bool) → xs ≢ [] → last_or None xs ≢ None
some_came [] some e = some refl
some_came (x ∷ xs) some e = some_last x xs e

module _ (role : Role) (bytes : List ℕ) (seen : Seen) (h : IsSeen role bytes seen) where
  abbrev behind : List ℕ
  behind = drop seen.after bytes

  events_told : (events : List Event) → HasEvents role most_limits bytes events → events ≡ h.events
  events_told events are = one_events role most_limits bytes events h.events are h.are_events

  behind_told : (events : List Event) (others : List ℕ) → HasEvents role most_limits bytes events
      → StandBehind role bytes events others → others ≡ behind
  behind_told events others are stand = one_behind role bytes h.events others behind
      (subst (λ (l : List Event). StandBehind role bytes l others) (events_told events are) stand) h.behind

  pub holds_data : (came : Bool) → ((came ≡ true) ↔ (left_open seen.frame ≢ None))
      → (came ≡ true) ↔ HoldData role bytes
  holds_data came tells = (
    λ yes. record {
      events = h.events;
      are_events = h.are_events;
      some = λ none. tells.0 yes (h.left ∙ ap (λ (l : List Bool). last_or None l) none);
    },
    λ d. tells.1 (λ none. some_came (flat_map leaves_open h.events)
        (subst (λ (l : List Event). flat_map leaves_open l ≢ []) (events_told d.events d.are_events) d.some)
        (sym h.left ∙ none)),
  )

  pub controls_behind : (right : Bool) → ((right ≡ true) ↔ AreControls role behind)
      → (right ≡ true) ↔ HasControlsBehind role bytes
  controls_behind right tells = (
    λ yes. record {
      events = h.events;
      are_events = h.are_events;
      behind = behind;
      stand_behind = h.behind;
      controls = tells.0 yes;
    },
    λ c. tells.1 (subst (λ (l : List ℕ). AreControls role l) (behind_told c.events c.behind c.are_events c.stand_behind)
        c.controls),
  )

  -- ---- the turn of the first byte behind a close

  front_within : (n : ℕ) (turns : List (List ℕ)) → length (concat (take n turns)) ≤ length (concat turns)
  front_within zero turns = omega arith
  front_within (suc n) [] = omega arith
  front_within (suc n) (x ∷ turns) =
      omega (arith, front_within n turns, length-append x (concat (take n turns)), length-append x (concat turns))

  pub beyond_close : (turns : List (List ℕ)) → concat turns ≡ bytes → (ending : Option (InTurn Ending))
      → ends_with_close ending ≡ true → (found : Option ℕ) → IsTurnOfPlace turns seen.after found
      → IsBeyondClose role turns ending found
  beyond_close turns all ending closes None beyond =
      let none : behind ≡ [] = drop_of_length-le bytes (omega (arith, beyond, ap (λ (l : List ℕ). length l) all)) in
      inr (λ turn goes.
      goes.some (behind_told goes.events goes.behind
      (subst (λ (l : List ℕ). HasEvents role most_limits l goes.events) all goes.are_events)
      (subst (λ (l : List ℕ). StandBehind role l goes.events goes.behind) all goes.stand_behind) ∙ none))
  beyond_close turns all ending closes (Some turn) holds =
      let whole = ap (λ (l : List ℕ). length l) all in
      let left = length-drop seen.after bytes in
      let place : seen.after + 1 ≡ length (concat turns) - length behind + 1 =
      omega (arith, whole, left, h.within) in (
        closes,
        record {
          events = h.events;
          are_events = subst (λ (l : List ℕ). HasEvents role most_limits l h.events) (sym all) h.are_events;
          behind = behind;
          stand_behind = subst (λ (l : List ℕ). StandBehind role l h.events behind) (sym all) h.behind;
          some = λ none. omega (
            arith,
            ap (λ (l : List ℕ). length l) none,
            left,
            whole,
            holds.1,
            front_within (turn + 1) turns,
          );
          place = subst (λ (n : ℕ). HoldsByte turns turn n) place holds;
        },
      )

-- ---- the fault that ends what was got, in its turn

whats_at : (turn : ℕ) (xs : List Ending) → map (λ (x : InTurn Ending). x.what) (at_turn turn xs) ≡ xs
whats_at turn [] = refl
whats_at turn (x ∷ xs) = ap (λ (l : List Ending). x ∷ l) (whats_at turn xs)

whats_by_turn : (turn : ℕ) (events : List (List Event))
    → map (λ (x : InTurn Ending). x.what) (by_turn ending_in turn events) ≡ flat_map ending_in (joined_events events)
whats_by_turn turn [] = refl
whats_by_turn turn (first ∷ later) =
    let here = flat_map ending_in first in
    let others = by_turn ending_in (turn + 1) later in
    map-append (λ (x : InTurn Ending). x.what) (at_turn turn here) others
    ∙ ap (λ (l : List Ending). l ++ map (λ (x : InTurn Ending). x.what) others) (whats_at turn here)
    ∙ ap (λ (l : List Ending). here ++ l) (whats_by_turn (turn + 1) later)
    ∙ sym (flat_map-append ending_in first (joined_events later))

abbrev what_of : Option (InTurn Ending) → Option Ending
what_of None = None
what_of (Some x) = Some x.what

last_what : (o : Option (InTurn Ending)) (xs : List (InTurn Ending))
    → last_or (what_of o) (map (λ (x : InTurn Ending). x.what) xs) ≡ what_of (last_or o xs)
last_what o [] = refl
last_what o (x ∷ xs) = last_what (Some x) xs

with_what : (o : Option (InTurn Ending)) (what : Ending) → what_of o ≡ Some what
    → (turn : ℕ) × (o ≡ Some (record { turn = turn; what = what }))
with_what None what e = absurd cc
with_what (Some x) what e =
    let same : x.what ≡ what = cc in
    (x.turn, ap (λ (w : Ending). Some (record { turn = x.turn; what = w })) same)

last_by_turn : (events : List (List Event)) (before : List Event) (reason : Reason)
    → joined_events events ≡ before ++ event.Failed reason ∷ []
    → (turn : ℕ) × (last_or None (by_turn ending_in 0 events) ≡ Some (record { turn = turn; what = Failed reason }))
last_by_turn events before reason e =
    let xs = by_turn ending_in 0 events in
    let all : map (λ (x : InTurn Ending). x.what) xs ≡ flat_map ending_in before ++ Failed reason ∷ [] =
    whats_by_turn 0 events ∙ ap (λ (l : List Event). flat_map ending_in l) e
    ∙ flat_map-append ending_in before (event.Failed reason ∷ []) in
    with_what (last_or None xs) (Failed reason)
    (sym (last_what None xs) ∙ ap (λ (l : List Ending). last_or None l) all
    ∙ last_joined None (flat_map ending_in before) (Failed reason ∷ []))

-- what came turn by turn ends with its first fault, in some turn
fails_in_turn : (role : Role) (turns : List (List ℕ)) (ending : Option (InTurn Ending))
    → IsEndingByTurn role turns ending → (place : ℕ) (reason : Reason)
    → IsFirstFault role most_limits (concat turns) place reason
    → (turn : ℕ) × (ending ≡ Some (record { turn = turn; what = Failed reason }))
fails_in_turn role turns ending is place reason first = by h.fault h.is_fault h.are
  where
    h : HasEvents role most_limits (concat turns) (joined_events is.events)
    h = whole_events role turns is.events is.are_events

    by : (fault : Option (ℕ × Reason)) → IsFaultOf role most_limits (concat turns) fault
        → joined_events is.events ≡ events_of h.frames fault
        → (turn : ℕ) × (ending ≡ Some (record { turn = turn; what = Failed reason }))
    by None none are = absurd (none place reason first.fault)
    by (Some fault) found are =
        let same = one_fault role most_limits (concat turns) fault.0 place fault.1 reason found first in
        let before = events_after [] (frames_of (through_close (ending_before fault.0 h.frames))) in
        let last = last_by_turn is.events before reason
        (are ∙ ap (λ (r : Reason). before ++ event.Failed r ∷ []) same.1) in
        (last.0, is.is_last ∙ last.1)

-- ---- a close counted in place of a fault

closed_with_none : (ending : Option (InTurn Ending)) → closed_with ending None ≡ ending
closed_with_none None = refl
closed_with_none (Some ending) = refl

code_counted : (role : Role) (turns : List (List ℕ)) (ending : Option (InTurn Ending))
    → IsEndingByTurn role turns ending → (code : Option ℕ)
    → MatchOption code ((n : ℕ) → FailsByUndefinedCode role (concat turns) n → ⊥)
    (FailsByUndefinedCode role (concat turns))
    → CountsUndefinedCode role (concat turns) ending (closed_with ending code)
code_counted role turns ending is None none = inr (none, closed_with_none ending)
code_counted role turns ending is (Some code) fails =
    let failed = fails_in_turn role turns ending is fails.place CloseCode fails.is_first in
    inl (failed.0, code, failed.1, fails, ap (λ (o : Option (InTurn Ending)). closed_with o (Some code)) failed.1)

pub evidence_counted : (tested : Role) (transcript : Transcript) (shown : Evidence) (code : Option ℕ)
    → IsEndingByTurn (other_role tested) (got_turns transcript.turns) shown.got.ending
    → MatchOption code ((n : ℕ) → FailsByUndefinedCode (other_role tested) (concat (got_turns transcript.turns)) n → ⊥)
    (FailsByUndefinedCode (other_role tested) (concat (got_turns transcript.turns)))
    → (counted : Evidence) → counted ≡ evidence_closed shown code
    → HasUndefinedCodeCounted tested transcript shown counted
evidence_counted tested transcript shown code is found counted so =
    let role = other_role tested in
    let turns = got_turns transcript.turns in
    let ending = code_counted role turns shown.got.ending is code found in
    subst (λ (x : Evidence). HasUndefinedCodeCounted tested transcript shown x) (sym so)
    (record {
      due = refl;
      replies = refl;
      ending = ending;
      has_rest = refl;
      turns = refl;
      ended = refl;
      answers_doom = refl;
    })

-- ---- all marks

-- what is seen of the bytes of both directions
module _ (tested : Role) (transcript : Transcript) (sent got : Seen)
    (is_sent : IsSeen tested (concat (sent_turns transcript.turns)) sent)
    (is_got : IsSeen (other_role tested) (concat (got_turns transcript.turns)) got) where
  abbrev role : Role
  role = other_role tested

  abbrev sent_bytes : List ℕ
  sent_bytes = concat (sent_turns transcript.turns)

  abbrev got_bytes : List ℕ
  got_bytes = concat (got_turns transcript.turns)

  pub marks_are : (marks : Marks) → ((marks.sends_data ≡ true) ↔ (left_open sent.frame ≢ None))
      → ((marks.is_late ≡ true) ↔ IsLate tested sent_bytes)
      → ((marks.is_open ≡ true) ↔ HasOpenMessage role got_bytes)
      → ((marks.ends_in_data ≡ true) ↔ EndsInDataFrame role got_bytes)
      → ((marks.has_controls ≡ true) ↔ AreControls role (drop got.after got_bytes))
      → AreMarksOf tested transcript marks
  marks_are marks came late begun inside controls = record {
    sends_data = holds_data tested sent_bytes sent is_sent marks.sends_data came;
    is_late = late;
    is_open = begun;
    ends_in_data = inside;
    has_controls = controls_behind role got_bytes got is_got marks.has_controls controls;
  }
