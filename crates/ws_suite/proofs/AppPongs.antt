-- Each ping for which a pong is owed is answered in its turn by an application that keeps the protocol.
use Rattle.std.proofs.Common.{◌≡◌, ◌∙◌, ℕ, zero, suc, ◌+◌, ◌-◌, ◌<◌, ◌≤◌, ◌&&◌, ◌||◌, nat_le, nat_lt, Bool, true, false}
use Rattle.std.proofs.Common.{if◌then◌else◌, List, [], ◌∷◌, ◌++◌, length, take, filter, flat_map, bytes_eq, Option, Some, None, ap, sym, refl, subst}
use Rattle.std.proofs.Common.{arith, inl, inr}
use Rattle.std.proofs.lemmas.Bool.{and_parts, and_from, both_ways, false_from_ne_true, or_cases, or_left, or_right}
use Rattle.std.proofs.lemmas.Bool.Decides.{nat_tests}
use Rattle.std.proofs.lemmas.List.{take_all}
use Rattle.std.proofs.lemmas.List.Elements.{filter-append}
use Rattle.std.proofs.lemmas.Slice.Eq.{bytes_eq-Decides}
use Rattle.std.specs.List.{AllByRecursion, list_any}
use Rattle.ws_wire.specs.declared.role.Role.{Role}
use Rattle.ws_wire.proofs.Splits.{all-append}
use Rattle.ws_session.specs.declared.event.Event.{Event}
use Rattle.ws_session.specs.declared.event.Event.TheVariants as event
use Rattle.ws_session.specs.Faults.{frames_of}
use Rattle.ws_session.specs.Replies.{has_close}
use Rattle.ws_scripts.specs.declared.transcript.Transcript.{Transcript}
use Rattle.ws_suite.specs.declared.evidence.InTurn.{InTurn}
use Rattle.ws_suite.specs.declared.evidence.Reply.{Reply}
use Rattle.ws_suite.specs.declared.evidence.Reply.TheVariants as reply
use Rattle.ws_suite.specs.declared.evidence.Ending.{Ending}
use Rattle.ws_suite.specs.declared.evidence.Evidence.{Evidence}
use Rattle.ws_suite.specs.Evidence.{AreEventsByTurn, by_turn, due_for, got_in, joined_events, sent_turns}
use Rattle.ws_suite.specs.AppFairness.{IsAppTranscript, is_ping_of}
use Rattle.ws_suite.specs.Matching.{has_payload_of, is_pong, payload_of, pong_replies}
use Rattle.ws_suite.specs.Protocol.{IsLastAnswered, OwesPongs, SkipsOwedPong, close_of, is_answered, is_before_end, is_owed, owed_pongs}
use Rattle.ws_suite.specs.InnerCollecting.{at_turn}
use Rattle.ws_suite.specs.InnerEchoReplyLaws.{EchoReplyLaws}
use Rattle.ws_suite.proofs.AnsweredEvents.{has_end}
use Rattle.ws_suite.proofs.AnsweredTurns.{end_of_both}
use Rattle.ws_suite.proofs.AppDirections.{closed_so_far, due_as_many, due_in_turn, got_ends, told, told_as_many, told_close, told_in_turn}
use Rattle.ws_suite.proofs.FrameEvents.{pongs_are_told, tells_pong}
use Rattle.ws_suite.proofs.TestLemmas.{all_so, all_filtered, any_behind, any_in_front, last_of_all, none_fails}
use Rattle.ws_suite.proofs.TurnEnds.{last_ending}
use Rattle.ws_suite.proofs.TurnsAdded.{turn_at}

-- ---- a pong among the replies that were got

-- it answers what is due
abbrev pub answers_it : InTurn Reply → InTurn Reply → Bool
answers_it due got = has_payload_of got due && nat_le due.turn got.turn

answers_in : (due : InTurn Reply) (payload : List ℕ) (turn : ℕ) (events : List Event) → payload_of due.what ≡ payload → due.turn ≤ turn → list_any (tells_pong payload) events ≡ true
    → list_any (answers_it due) (pong_replies (at_turn turn (flat_map got_in events))) ≡ true
answers_in due payload turn [] same early e = e
answers_in due payload turn (event.Part ∷ events) same early e = answers_in due payload turn events same early e
answers_in due payload turn (event.Message message ∷ events) same early e = answers_in due payload turn events same early e
answers_in due payload turn (event.Ping other ∷ events) same early e = answers_in due payload turn events same early e
answers_in due payload turn (event.Pong other ∷ events) same early e =
    let here = answers_it due (record { turn = turn; what = reply.Pong other }) in
    let rest = list_any (answers_it due) (pong_replies (at_turn turn (flat_map got_in events))) in
    elim (or_cases (bytes_eq payload other) (list_any (tells_pong payload) events) e) [
      | inl equal ↦
          let late : nat_le due.turn turn ≡ true = grind (arith, nat_tests) in
          or_left here rest (and_from (bytes_eq (payload_of due.what) other) (nat_le due.turn turn) (ap (λ (l : List ℕ). bytes_eq l other) same ∙ equal) late)
      | inr later ↦ or_right here rest (answers_in due payload turn events same early later)
    ]
answers_in due payload turn (event.Close close ∷ events) same early e = answers_in due payload turn events same early e
answers_in due payload turn (event.Failed reason ∷ events) same early e = answers_in due payload turn events same early e

answers_at : (due : InTurn Reply) (payload : List ℕ) (first : ℕ) (turns : List (List Event)) (n : ℕ) → payload_of due.what ≡ payload → due.turn ≤ first + n → list_any (tells_pong payload) (turn_at turns n) ≡ true
    → list_any (answers_it due) (pong_replies (by_turn got_in first turns)) ≡ true
answers_at due payload first [] n same early e = e
answers_at due payload first (events ∷ turns) zero same early e =
    ap (λ (l : List (InTurn Reply)). list_any (answers_it due) l) (filter-append (λ x. is_pong x.what) (at_turn first (flat_map got_in events)) (by_turn got_in (first + 1) turns))
    ∙ any_in_front (answers_it due) (pong_replies (at_turn first (flat_map got_in events))) (pong_replies (by_turn got_in (first + 1) turns)) (answers_in due payload first events same (omega (arith, early)) e)
answers_at due payload first (events ∷ turns) (suc n) same early e =
    ap (λ (l : List (InTurn Reply)). list_any (answers_it due) l) (filter-append (λ x. is_pong x.what) (at_turn first (flat_map got_in events)) (by_turn got_in (first + 1) turns))
    ∙ any_behind (answers_it due) (pong_replies (at_turn first (flat_map got_in events))) (pong_replies (by_turn got_in (first + 1) turns)) (answers_at due payload (first + 1) turns n same (omega (arith, early)) e)

-- ---- a pong that is due

-- it is due for a ping with its payload, in its turn; the first turn has this number
pub record IsAskedFor (first : ℕ) (turns : List (List Event)) (due : InTurn Reply) : Type 0 where
  pub later : ℕ
  pub there : later < length turns
  pub turn : due.turn ≡ first + later
  pub payload : List ℕ
  pub same : payload_of due.what ≡ payload
  pub asks : list_any (is_ping_of payload) (turn_at turns later) ≡ true

asked_in : (first : ℕ) (all : List Event) (turns : List (List Event)) (events : List Event)
    → ((payload : List ℕ) → list_any (is_ping_of payload) events ≡ true → list_any (is_ping_of payload) all ≡ true)
    → AllByRecursion (IsAskedFor first (all ∷ turns)) (pong_replies (at_turn first (flat_map due_for events)))
asked_in first all turns [] within = tt
asked_in first all turns (event.Part ∷ events) within = asked_in first all turns events within
asked_in first all turns (event.Message message ∷ events) within = asked_in first all turns events within
asked_in first all turns (event.Ping payload ∷ events) within = (
  record {
    later = 0;
    there = omega arith;
    turn = omega arith;
    payload = payload;
    same = refl;
    asks = within payload (or_left (bytes_eq payload payload) (list_any (is_ping_of payload) events) ((bytes_eq-Decides payload payload).1 refl));
  },
  asked_in first all turns events (λ other e. within other (or_right (bytes_eq other payload) (list_any (is_ping_of other) events) e)),
)
asked_in first all turns (event.Pong payload ∷ events) within = asked_in first all turns events within
asked_in first all turns (event.Close close ∷ events) within = asked_in first all turns events within
asked_in first all turns (event.Failed reason ∷ events) within = asked_in first all turns events within

asked_one_later : (first : ℕ) (events : List Event) (turns : List (List Event)) (due : InTurn Reply) → IsAskedFor (first + 1) turns due → IsAskedFor first (events ∷ turns) due
asked_one_later first events turns due asked = record {
  later = suc asked.later;
  there = omega (arith, asked.there);
  turn = omega (arith, asked.turn);
  payload = asked.payload;
  same = asked.same;
  asks = asked.asks;
}

asked_for : (first : ℕ) (turns : List (List Event)) → AllByRecursion (IsAskedFor first turns) (pong_replies (by_turn due_for first turns))
asked_for first [] = tt
asked_for first (events ∷ turns) =
    let here = pong_replies (at_turn first (flat_map due_for events)) in
    let later = pong_replies (by_turn due_for (first + 1) turns) in
    subst (λ (l : List (InTurn Reply)). AllByRecursion (IsAskedFor first (events ∷ turns)) l)
    (sym (filter-append (λ x. is_pong x.what) (at_turn first (flat_map due_for events)) (by_turn due_for (first + 1) turns)))
    (all-append (IsAskedFor first (events ∷ turns)) here later (asked_in first events turns events (λ payload e. e))
    (all_so (IsAskedFor (first + 1) turns) (IsAskedFor first (events ∷ turns)) (asked_one_later first events turns) later (asked_for (first + 1) turns)))

-- ---- ends are lasting

pub still_ends : (m n : ℕ) (turns : List (List Event)) → m ≤ n → has_end (joined_events (take m turns)) ≡ true → has_end (joined_events (take n turns)) ≡ true
still_ends zero n turns less e = absurd cc
still_ends (suc m) zero turns less e = absurd (omega (arith, less))
still_ends (suc m) (suc n) [] less e = absurd cc
still_ends (suc m) (suc n) (events ∷ turns) less e =
    let parts = sym (end_of_both events (joined_events (take m turns))) ∙ e in
    end_of_both events (joined_events (take n turns)) ∙ (elim (or_cases (has_end events) (has_end (joined_events (take m turns))) parts) as (λ _. has_end events || has_end (joined_events (take n turns)) ≡ true) [
      | inl here ↦ or_left (has_end events) (has_end (joined_events (take n turns))) here
      | inr later ↦ or_right (has_end events) (has_end (joined_events (take n turns))) (still_ends m n turns (omega (arith, less)) later)
    ])

pub not_before : (m n : ℕ) (turns : List (List Event)) → m ≤ n → has_end (joined_events (take n turns)) ≡ false → has_end (joined_events (take m turns)) ≡ false
not_before m n turns less e = false_from_ne_true (has_end (joined_events (take m turns))) (λ f. both_ways (has_end (joined_events (take n turns))) e (still_ends m n turns less f))

-- ---- an application

module _ (laws : EchoReplyLaws) (tested : Role) (transcript : Transcript) (app : IsAppTranscript tested transcript) (due : List (List Event)) (are : AreEventsByTurn tested (sent_turns transcript.turns) due)
    (x : Evidence) (dues : x.due.replies ≡ by_turn due_for 0 due) (pongs : List (InTurn Reply)) (gots : x.got.replies ≡ by_turn got_in 0 (told tested transcript app) ++ pongs) (ending : x.got.ending ≡ last_ending (told tested transcript app)) where
  abbrev events : List (List Event)
  events = told tested transcript app

  abbrev all : ℕ
  all = length transcript.turns

  -- no close was sent by the end of the ping's turn
  none_sent : (pong : InTurn Reply) (n : ℕ) → pong.turn ≡ n → n < all → is_before_end (close_of x.got.ending) pong ≡ true → has_close (frames_of (app.sent (n + 1))) ≡ false
  none_sent pong n is less before = sym (closed_so_far tested transcript app (n + 1) (omega (arith, less))) ∙ elim (got_ends tested transcript app laws) as (λ _. has_end (joined_events (take (n + 1) events)) ≡ false) [
    | inl nowhere ↦ not_before (n + 1) all events (omega (arith, less)) (ap (λ (l : List (List Event)). has_end (joined_events l)) (take_all all events (omega (arith, told_as_many tested transcript app))) ∙ nowhere.none)
    | inr at ↦
        let closing : close_of x.got.ending ≡ Some (record { turn = at.turn; what = at.what }) =
        ap (λ (o : Option (InTurn Ending)). close_of o) (ending ∙ at.is) ∙ ap (λ b. if b then Some (record { turn = at.turn; what = at.what }) else None) (told_close tested transcript app at.what at.alone) in
        let earlier : nat_lt pong.turn at.turn ≡ true = ap (λ (o : Option (InTurn Ending)). is_before_end o pong) (sym closing) ∙ before in
        let less_than : pong.turn < at.turn = grind (arith, nat_tests) in
        not_before (n + 1) at.turn events (omega (arith, less_than, is)) at.before
  ]

  answered : (pong : InTurn Reply) → IsAskedFor 0 due pong → is_owed x pong ≡ true → is_answered x pong ≡ true
  answered pong asked owed =
      let n = asked.later in
      let less : n < all = omega (arith, asked.there, due_as_many tested transcript app laws due are) in
      let is : pong.turn ≡ n = omega (arith, asked.turn) in
      let before = and_parts (is_before_end x.due.ending pong) (is_before_end (close_of x.got.ending) pong) owed in
      let turn = app.turn n less in
      let asks : list_any (is_ping_of asked.payload) turn.0 ≡ true =
      ap (λ (l : List Event). list_any (is_ping_of asked.payload) l) (sym (due_in_turn tested transcript app laws due are n turn.0 less turn.2)) ∙ asked.asks in
      let sent = turn.4 (none_sent pong n is less before.1) asked.payload asks in
      let there : list_any (tells_pong asked.payload) (turn_at events n) ≡ true =
      ap (λ (l : List Event). list_any (tells_pong asked.payload) l) (told_in_turn tested transcript app n turn.1 less turn.3) ∙ pongs_are_told asked.payload (frames_of (app.sent n)) (frames_of turn.1) sent in
      let all_got = by_turn got_in 0 events in
      ap (λ (l : List (InTurn Reply)). list_any (answers_it pong) (pong_replies l)) gots
      ∙ (ap (λ (l : List (InTurn Reply)). list_any (answers_it pong) l) (filter-append (λ x. is_pong x.what) all_got pongs)
      ∙ any_in_front (answers_it pong) (pong_replies all_got) (pong_replies pongs) (answers_at pong asked.payload 0 events n asked.same (omega (arith, is)) there))

  -- each pong that is owed
  pub owed_are_answered : AllByRecursion (λ pong. is_answered x pong ≡ true) (owed_pongs x)
  owed_are_answered =
      subst (λ (l : List (InTurn Reply)). AllByRecursion (λ pong. is_answered x pong ≡ true) (filter (is_owed x) (pong_replies l))) (sym dues)
      (all_filtered (λ pong. is_answered x pong ≡ true) (is_owed x) (pong_replies (by_turn due_for 0 due))
      (all_so (IsAskedFor 0 due) (λ pong. is_owed x pong ≡ true → is_answered x pong ≡ true) answered (pong_replies (by_turn due_for 0 due)) (asked_for 0 due)))

  pub last_is_answered : OwesPongs x → IsLastAnswered x
  last_is_answered some =
      let last = last_of_all (λ pong. is_answered x pong ≡ true) (owed_pongs x) some owed_are_answered in
      record { last = last.0; is_last = last.1; answered = inl last.2 }

  pub skips_none : SkipsOwedPong x → ⊥
  skips_none (inl none) = none.1 (last_is_answered none.0)
  skips_none (inr some) = both_ways _ (none_fails (is_answered x) (length (owed_pongs x) - 1) (owed_pongs x) owed_are_answered) some
