-- What a tester is told of an application's frames, turn by turn; and how both directions of its transcript end.
use Rattle.std.proofs.Common.{◌≡◌, ◌∙◌, ℕ, ◌+◌, ◌<◌, ◌≤◌, ◌⊎◌, Bool, true, false, List, [], ◌∷◌, ◌++◌, length, map}
use Rattle.std.proofs.Common.{take, drop, flat_map, cond, Option, ap, sym, refl, subst, arith, inl, inr}
use Rattle.std.proofs.lemmas.Bool.{cases_lt}
use Rattle.std.proofs.lemmas.List.{length-map, map-append, take_all}
use Rattle.std.proofs.Math.Seq.{drop-append_seam}
use Rattle.std.specs.List.{AllByRecursion, concat}
use Rattle.ws_wire.specs.declared.role.Role.{Role}
use Rattle.ws_wire.specs.Frame.{Frame, KeyedFrame, FitsTheLayout, stream_bytes}
use Rattle.ws_session.specs.declared.event.Event.{Event}
use Rattle.ws_session.specs.Events.{events_after}
use Rattle.ws_session.specs.Faults.{KeysFit, frames_of}
use Rattle.ws_session.specs.Replies.{has_close}
use Rattle.ws_session.specs.Sends.{most_limits}
use Rattle.ws_session.specs.Validity.{AreValidFrames}
use Rattle.ws_scripts.specs.declared.transcript.Turn.{Turn}
use Rattle.ws_scripts.specs.declared.transcript.Transcript.{Transcript}
use Rattle.ws_suite.specs.declared.evidence.InTurn.{InTurn}
use Rattle.ws_suite.specs.declared.evidence.Ending.{Ending}
use Rattle.ws_suite.specs.declared.evidence.Direction.{Direction}
use Rattle.ws_suite.specs.Evidence.{AreEventsByTurn, IsDirectionOf, by_turn, ending_in, got_in, got_turns, joined_events, other_role, sent_turns}
use Rattle.ws_suite.specs.Fairness.{got_within, sent_within}
use Rattle.ws_suite.specs.AppFairness.{IsAppTranscript, go_on}
use Rattle.ws_suite.specs.Matching.{ends_with_close, ends_with_fault, is_close_ending}
use Rattle.ws_suite.specs.InnerCollecting.{FrameLaws}
use Rattle.ws_suite.specs.InnerEchoReplyLaws.{EchoReplyLaws}
use Rattle.ws_suite.proofs.AnsweredEvents.{has_end}
use Rattle.ws_suite.proofs.FrameEvents.{end_of_frames, frames_close}
use Rattle.ws_suite.proofs.TurnEnds.{EndsInTurn, EndsNowhere, ends_or_not, goes_on_by, last_ending, only_last_ends, only_last_so_far}
use Rattle.ws_suite.proofs.TurnsAdded.{Grows, added_from, added_so_far, grows_by_turn, length-added, same_parts, turn_at}
use Rattle.ws_suite.proofs.ValidDirections.{are_by_turn, bytes_of_turns, events_by, events_of_turns, joined_frames, later_events, length-events_by, valid_direction}

module _ (tested : Role) (transcript : Transcript) (app : IsAppTranscript tested transcript) where
  abbrev pub count : ℕ
  count = length transcript.turns

  abbrev pub gots : List (List ℕ)
  gots = got_turns transcript.turns

  abbrev pub sents : List (List ℕ)
  sents = sent_turns transcript.turns

  pub got_as_many : length gots ≡ count
  got_as_many = length-map transcript.turns (λ (turn : Turn). turn.got)

  pub sent_as_many : length sents ≡ count
  sent_as_many = length-map transcript.turns (λ (turn : Turn). turn.sent)

  -- ---- what was got

  grown : (n : ℕ) → n < count → Grows app.sent n
  grown n less =
      let turn = app.turn n less in
      turn.3 ∙ ap (λ (l : List KeyedFrame). app.sent n ++ l) (sym (ap (λ (l : List KeyedFrame). drop (length (app.sent n)) l) turn.3 ∙ drop-append_seam (app.sent n) turn.1))

  -- the frames of each turn
  abbrev pub frames : List (List KeyedFrame)
  frames = added_from app.sent 0 gots

  frames_as_many : length frames ≡ count
  frames_as_many = length-added app.sent 0 gots ∙ got_as_many

  pub sent_so_far : (n : ℕ) → n ≤ count → joined_frames (take n frames) ≡ app.sent n
  sent_so_far n less =
      ap (λ (l : List KeyedFrame). l ++ joined_frames (take n frames)) (sym app.begun)
      ∙ (added_so_far app.sent 0 gots n (λ i short. subst (λ k. Grows app.sent k) (let e : i ≡ 0 + i = omega arith in e) (grown i (omega (arith, short, got_as_many)))) (omega (arith, less, got_as_many))
      ∙ ap (λ k. app.sent k) (let e : 0 + n ≡ n = omega arith in e))

  pub all_frames : joined_frames frames ≡ app.sent count
  all_frames = ap (λ (l : List (List KeyedFrame)). joined_frames l) (sym (take_all count frames (omega (arith, frames_as_many)))) ∙ sent_so_far count (omega arith)

  bytes_so_far : (n : ℕ) → n ≤ count → concat (take n (map stream_bytes frames)) ≡ got_within transcript n
  bytes_so_far n less = bytes_of_turns n frames ∙ (ap (λ (l : List KeyedFrame). stream_bytes l) (sent_so_far n less) ∙ sym (app.got n less))

  pub gots_are : gots ≡ map stream_bytes frames
  gots_are = same_parts gots (map stream_bytes frames) (got_as_many ∙ sym (length-map frames stream_bytes ∙ frames_as_many)) (λ n less. sym (bytes_so_far n (omega (arith, less, got_as_many))))

  pub layout : AllByRecursion FitsTheLayout (joined_frames frames)
  layout = subst (λ (l : List KeyedFrame). AllByRecursion FitsTheLayout l) (sym all_frames) app.layout

  pub keys : KeysFit (other_role tested) (joined_frames frames)
  keys = subst (λ (l : List KeyedFrame). KeysFit (other_role tested) l) (sym all_frames) app.keys

  pub valid : AreValidFrames most_limits (frames_of (joined_frames frames))
  valid = subst (λ (l : List KeyedFrame). AreValidFrames most_limits (frames_of l)) (sym all_frames) app.valid

  -- the events of each turn, which are told to the tester
  abbrev pub told : List (List Event)
  told = events_by [] frames

  pub told_as_many : length told ≡ count
  told_as_many = length-events_by [] frames ∙ frames_as_many

  pub told_so_far : (n : ℕ) → n ≤ count → joined_events (take n told) ≡ events_after [] (frames_of (app.sent n))
  told_so_far n less = events_of_turns n [] frames ∙ ap (λ (l : List KeyedFrame). events_after [] (frames_of l)) (sent_so_far n less)

  pub all_told : joined_events told ≡ events_after [] (frames_of (app.sent count))
  all_told = ap (λ (l : List (List Event)). joined_events l) (sym (take_all count told (omega (arith, told_as_many)))) ∙ told_so_far count (omega arith)

  -- those of one turn
  pub told_in_turn : (n : ℕ) (more : List KeyedFrame) → n < count → app.sent (n + 1) ≡ app.sent n ++ more → turn_at told n ≡ events_after (frames_of (app.sent n)) (frames_of more)
  told_in_turn n more less e =
      grows_by_turn told (λ k. events_after [] (frames_of (app.sent k))) n (events_after (frames_of (app.sent n)) (frames_of more)) (told_so_far n (omega (arith, less))) (told_so_far (n + 1) (omega (arith, less)))
      (ap (λ (l : List KeyedFrame). events_after [] (frames_of l)) e
      ∙ (ap (λ (l : List Frame). events_after [] l) (map-append (λ (x : KeyedFrame). x.frame) (app.sent n) more) ∙ later_events [] (frames_of (app.sent n)) (frames_of more)))

  -- what was got, as a direction: nothing stands behind its last event
  abbrev pub got_shown : Direction
  got_shown = record { replies = by_turn got_in 0 told; ending = last_ending told; has_rest = false }

  pub got_direction : FrameLaws → IsDirectionOf (other_role tested) got_in gots got_shown
  got_direction laws =
      subst (λ (l : List (List ℕ)). IsDirectionOf (other_role tested) got_in l got_shown) (sym gots_are)
      (valid_direction laws (other_role tested) frames layout keys valid got_in got_shown refl refl refl)

  pub told_by_turn : FrameLaws → AreEventsByTurn (other_role tested) gots told
  told_by_turn laws = subst (λ (l : List (List ℕ)). AreEventsByTurn (other_role tested) l told) (sym gots_are) (are_by_turn laws (other_role tested) frames layout keys valid)

  -- a close was sent by then exactly where an end was told by then
  pub closed_so_far : (n : ℕ) → n ≤ count → has_end (joined_events (take n told)) ≡ has_close (frames_of (app.sent n))
  closed_so_far n less = ap (λ (l : List Event). has_end l) (told_so_far n less) ∙ end_of_frames [] (frames_of (app.sent n))

  pub closed_at_all : has_end (joined_events told) ≡ has_close (frames_of (app.sent count))
  closed_at_all = ap (λ (l : List Event). has_end l) all_told ∙ end_of_frames [] (frames_of (app.sent count))

  -- the ending that is told is a close
  pub told_close : (what : Ending) → flat_map ending_in (joined_events told) ≡ what ∷ [] → is_close_ending what ≡ true
  told_close what e =
      let all = subst (λ (l : List Event). AllByRecursion (λ (x : Ending). is_close_ending x ≡ true) (flat_map ending_in l)) (sym all_told) (frames_close [] (frames_of (app.sent count))) in
      let one = subst (λ (l : List Ending). AllByRecursion (λ (x : Ending). is_close_ending x ≡ true) l) e all in
      one.0

  module _ (laws : EchoReplyLaws) where
    pub got_ends : EndsNowhere told (last_ending told) ⊎ EndsInTurn told (last_ending told)
    got_ends = ends_or_not told (only_last_ends laws (other_role tested) gots told (told_by_turn laws.frames))

    pub got_no_fault : ends_with_fault (last_ending told) ≡ false
    got_no_fault = elim got_ends [
      | inl nowhere ↦ ap (λ (o : Option (InTurn Ending)). ends_with_fault o) nowhere.is
      | inr at ↦ ap (λ (o : Option (InTurn Ending)). ends_with_fault o) at.is ∙ ap (λ b. cond b false true) (told_close at.what at.alone)
    ]

    -- a close is got exactly where one was sent
    pub got_close : ends_with_close (last_ending told) ≡ has_close (frames_of (app.sent count))
    got_close = elim got_ends [
      | inl nowhere ↦ ap (λ (o : Option (InTurn Ending)). ends_with_close o) nowhere.is ∙ (sym nowhere.none ∙ closed_at_all)
      | inr at ↦ ap (λ (o : Option (InTurn Ending)). ends_with_close o) at.is ∙ (told_close at.what at.alone ∙ (sym at.some ∙ closed_at_all))
    ]

    -- ---- what was sent

    module _ (due : List (List Event)) (are : AreEventsByTurn tested sents due) where
      pub due_as_many : length due ≡ count
      due_as_many = are.each ∙ sent_as_many

      pub due_so_far : (n : ℕ) → n ≤ count → joined_events (take n due) ≡ app.events n
      due_so_far n less =
          laws.session.one_list tested most_limits (sent_within transcript n) (joined_events (take n due)) (app.events n) (are.so_far n (omega (arith, less, sent_as_many))) (app.has_events n less)

      pub all_due : joined_events due ≡ app.events count
      all_due = ap (λ (l : List (List Event)). joined_events l) (sym (take_all count due (omega (arith, due_as_many)))) ∙ due_so_far count (omega arith)

      pub due_ends : EndsNowhere due (last_ending due) ⊎ EndsInTurn due (last_ending due)
      due_ends = ends_or_not due (only_last_ends laws tested sents due are)

      -- the session goes on where they have no end
      pub due_goes_on : (n : ℕ) → n ≤ count → (b : Bool) → has_end (joined_events (take n due)) ≡ b → go_on (app.events n) ≡ cond b false true
      due_goes_on n less b e =
          ap (λ (l : List Event). go_on l) (sym (due_so_far n less))
          ∙ goes_on_by (joined_events (take n due)) b (only_last_so_far laws tested sents due n (omega (arith, less, sent_as_many)) are) e

      pub all_goes_on : (b : Bool) → has_end (joined_events due) ≡ b → go_on (app.events count) ≡ cond b false true
      all_goes_on b e =
          ap (λ (l : List Event). go_on l) (sym all_due) ∙ goes_on_by (joined_events due) b (only_last_ends laws tested sents due are) e

      -- what was sent in a turn
      pub due_in_turn : (n : ℕ) (later : List Event) → n < count → app.events (n + 1) ≡ app.events n ++ later → turn_at due n ≡ later
      due_in_turn n later less e = grows_by_turn due app.events n later (due_so_far n (omega (arith, less))) (due_so_far (n + 1) (omega (arith, less))) e

      -- an end stands in the last turn
      pub due_at_last : (at : EndsInTurn due (last_ending due)) → count ≡ at.turn + 1
      due_at_last at = elim (cases_lt (at.turn + 1) count) [
        | inr late ↦ omega (arith, late, at.there, due_as_many)
        | inl early ↦
            let over : go_on (app.events (at.turn + 1)) ≡ false = due_goes_on (at.turn + 1) (omega (arith, early)) true at.by_then in
            absurd (let wrong : true ≡ false = sym (app.goes_on (at.turn + 1) early) ∙ over in cc)
      ]
