-- The evidence of an echo's transcript: what was got is what was due, turn by turn.
use Rattle.std.proofs.Common.{◌≡◌, ◌∙◌, ℕ, suc, ◌+◌, ◌<◌, ◌≤◌, ◌↔◌, Bool, true, false, cond, List, [], ◌++◌, length, map, take, drop, Option, None, Some, MatchBool, ap, sym, refl, subst, arith, inl, inr}
use Rattle.std.proofs.lemmas.Bool.{cases_lt}
use Rattle.std.proofs.lemmas.List.{length-map, take_all}
use Rattle.std.proofs.Math.Seq.{drop-append_seam}
use Rattle.std.specs.List.{AllByRecursion, concat, last_or}
use Rattle.ws_wire.specs.declared.role.Role.{Role}
use Rattle.ws_wire.specs.declared.role.Role.TheVariants.{Client, Server}
use Rattle.ws_wire.specs.Frame.{Frame, KeyedFrame, FitsTheLayout, stream_bytes}
use Rattle.ws_session.specs.declared.event.Event.{Event}
use Rattle.ws_session.specs.Validity.{AreValidFrames}
use Rattle.ws_session.specs.Faults.{KeysFit, frames_of}
use Rattle.ws_session.specs.Events.{HasEvents}
use Rattle.ws_session.specs.Replies.{echo_replies_of}
use Rattle.ws_session.specs.Sends.{most_limits}
use Rattle.ws_scripts.specs.declared.transcript.Turn.{Turn}
use Rattle.ws_scripts.specs.declared.transcript.Ended.{Ended}
use Rattle.ws_scripts.specs.declared.transcript.Ended.TheVariants.{Tester, Peer}
use Rattle.ws_scripts.specs.declared.transcript.Transcript.{Transcript}
use Rattle.ws_suite.specs.declared.verdict.Verdict.TheVariants.{Pass}
use Rattle.ws_suite.specs.declared.evidence.InTurn.{InTurn}
use Rattle.ws_suite.specs.declared.evidence.Ending.{Ending}
use Rattle.ws_suite.specs.Evidence.{AreEventsByTurn, HasRest, IsDirectionOf, IsEvidenceOf, by_turn, due_for, ending_in, got_in, got_turns, joined_events, other_role, sent_turns}
use Rattle.ws_suite.specs.Doom.{AnswersDoom, CountsAs, HasDoomCounted, IsDoomOf, counts_doom}
use Rattle.ws_suite.specs.Verdicts.{IsVerdictOf}
use Rattle.ws_suite.specs.Fairness.{IsEchoTranscript, echo_bytes, ends_echo, got_within, sent_within}
use Rattle.ws_suite.specs.InnerEchoReplyLaws.{EchoReplyLaws}
use Rattle.ws_suite.proofs.ValidDirections.{bytes_of_turns, events_by, joined_frames, valid_direction}
use Rattle.ws_suite.proofs.AnsweredEvents.{OnlyLastEnds, has_end, over_by_end}
use Rattle.ws_suite.proofs.AnsweredTurns.{answered, answers_by, answers_so_far, end_when_due, ends_nowhere, ends_somewhere, frames_keyed, got_when_due, keyed, length-answers_by, told_by_turn}
use Rattle.ws_suite.proofs.FairVerdict.{EndsRightly, answered_end, fully_answered, fully_answered_passes}
use Rattle.ws_suite.proofs.TurnsAdded.{Grows, added_from, added_so_far, last_of_map, length-added, one_turn_more, only_by, rest_told, same_parts}

-- ---- nothing of an echo is counted as doomed

-- where nothing ended what was sent the tester ended the connection, without a close
counts_rightly : (tested : Role) (transcript : Transcript) (due : Option (InTurn Ending)) (turns : ℕ) → EndsRightly due turns transcript.ended → CountsAs tested transcript (answered_end due) due due
counts_rightly tested transcript (Some due) turns right = refl
counts_rightly Client transcript None turns right =
    subst (λ (e : Ended). MatchBool (counts_doom Client e None) (IsDoomOf Client (sent_turns transcript.turns) None) (◌≡◌ {A = Option (InTurn Ending)} None None)) (sym right) refl
counts_rightly Server transcript None turns right =
    subst (λ (e : Ended). MatchBool (counts_doom Server e None) (IsDoomOf Server (sent_turns transcript.turns) None) (◌≡◌ {A = Option (InTurn Ending)} None None)) (sym right) refl

-- a close that is got in the turn of what it answers comes in no earlier one
answers_no_doom : (tested : Role) (turns : List (List ℕ)) (due : Option (InTurn Ending)) → AnswersDoom tested turns (answered_end due) due → ⊥
answers_no_doom tested turns None d = d
answers_no_doom tested turns (Some due) d = omega (arith, d.2)

-- ---- a transcript of an echo

module _ (laws : EchoReplyLaws) (tested : Role) (transcript : Transcript) (h : IsEchoTranscript tested transcript) where
  abbrev count : ℕ
  count = length transcript.turns

  abbrev sents : List (List ℕ)
  sents = sent_turns transcript.turns

  abbrev gots : List (List ℕ)
  gots = got_turns transcript.turns

  as_many : length sents ≡ count
  as_many = length-map transcript.turns (λ (turn : Turn). turn.sent)

  got_as_many : length gots ≡ count
  got_as_many = length-map transcript.turns (λ (turn : Turn). turn.got)

  nothing_valid : AreValidFrames most_limits []
  nothing_valid = record { each = tt; sizes = tt; close = tt; finished = tt; unfinished = record { frames = tt; size = omega arith; text = tt } }

  first_none : h.events 0 ≡ []
  first_none = laws.session.one_list tested most_limits [] (h.events 0) [] (h.has_events 0 (omega arith)) (laws.frames.told tested most_limits most_limits 0 [] tt tt nothing_valid)

  grown : (n : ℕ) → n < count → Grows h.events n
  grown n less =
      let more = one_turn_more n sents in
      let next : n + 1 ≡ suc n = omega arith in
      let (later, e) = laws.session.go_on tested most_limits (sent_within transcript n) more.0 (h.events n) (h.events (n + 1)) (h.has_events n (omega (arith, less)))
      (subst (λ (l : List ℕ). HasEvents tested most_limits l (h.events (n + 1))) (ap (λ k. concat (take k sents)) next ∙ more.1) (h.has_events (n + 1) (omega (arith, less)))) in
      e ∙ ap (λ (l : List Event). h.events n ++ l) (sym (ap (λ (l : List Event). drop (length (h.events n)) l) e ∙ drop-append_seam (h.events n) later))

  -- the events of each turn
  abbrev turns : List (List Event)
  turns = added_from h.events 0 sents

  turns_as_many : length turns ≡ count
  turns_as_many = length-added h.events 0 sents ∙ as_many

  so_far : (n : ℕ) → n ≤ count → joined_events (take n turns) ≡ h.events n
  so_far n less =
      ap (λ (l : List Event). l ++ joined_events (take n turns)) (sym first_none)
      ∙ (added_so_far h.events 0 sents n (λ i short. subst (λ k. Grows h.events k) (let e : i ≡ 0 + i = omega arith in e) (grown i (omega (arith, short, as_many)))) (omega (arith, less, as_many))
      ∙ ap (λ k. h.events k) (let e : 0 + n ≡ n = omega arith in e))

  all_events : joined_events turns ≡ h.events count
  all_events = ap (λ (l : List (List Event)). joined_events l) (sym (take_all count turns (omega (arith, turns_as_many)))) ∙ so_far count (omega arith)

  are_sent : AreEventsByTurn tested sents turns
  are_sent = record {
    each = turns_as_many ∙ sym as_many;
    so_far = λ n less. subst (λ (l : List Event). HasEvents tested most_limits (concat (take n sents)) l) (sym (so_far n (omega (arith, less, as_many)))) (h.has_events n (omega (arith, less, as_many)));
  }

  all_sent : HasEvents tested most_limits (concat sents) (joined_events turns)
  all_sent =
      subst (λ (l : List (List ℕ)). HasEvents tested most_limits (concat l) (joined_events turns)) (take_all count sents (omega (arith, as_many)))
      (subst (λ (l : List Event). HasEvents tested most_limits (sent_within transcript count) l) (sym all_events) (h.has_events count (omega arith)))

  only : OnlyLastEnds (joined_events turns)
  only = only_by laws tested (concat sents) [] (joined_events turns) all_sent

  -- ---- what was got

  abbrev frames : List (List KeyedFrame)
  frames = answers_by tested h.key [] turns

  frames_as_many : length frames ≡ count
  frames_as_many = length-answers_by tested h.key [] turns ∙ turns_as_many

  bytes_so_far : (n : ℕ) → n ≤ count → concat (take n (map stream_bytes frames)) ≡ got_within transcript n
  bytes_so_far n less =
      bytes_of_turns n frames
      ∙ (ap (λ (l : List KeyedFrame). stream_bytes l) (answers_so_far laws tested h.key n [] turns)
      ∙ (ap (λ (l : List Event). echo_bytes tested h.key l) (so_far n less) ∙ sym (h.got n less)))

  gots_are : gots ≡ map stream_bytes frames
  gots_are = same_parts gots (map stream_bytes frames) (got_as_many ∙ sym (length-map frames stream_bytes ∙ frames_as_many)) (λ n less. sym (bytes_so_far n (omega (arith, less, got_as_many))))

  all_frames : joined_frames frames ≡ keyed tested h.key (echo_replies_of [] (joined_events turns))
  all_frames =
      ap (λ (l : List (List KeyedFrame)). joined_frames l) (sym (take_all count frames (omega (arith, frames_as_many))))
      ∙ (answers_so_far laws tested h.key count [] turns ∙ ap (λ (l : List (List Event)). keyed tested h.key (echo_replies_of [] (joined_events l))) (take_all count turns (omega (arith, turns_as_many))))

  layout : AllByRecursion FitsTheLayout (joined_frames frames)
  layout = subst (λ (l : List KeyedFrame). AllByRecursion FitsTheLayout l) (sym all_frames) (laws.layout tested h.key (concat sents) (joined_events turns) all_sent h.is_key)

  keys : KeysFit (other_role tested) (joined_frames frames)
  keys = subst (λ (l : List KeyedFrame). KeysFit (other_role tested) l) (sym all_frames) (laws.keys tested h.key (echo_replies_of [] (joined_events turns)))

  valid : AreValidFrames most_limits (frames_of (joined_frames frames))
  valid = subst (λ (l : List Frame). AreValidFrames most_limits l) (sym (ap (λ (l : List KeyedFrame). frames_of l) all_frames ∙ frames_keyed tested h.key (echo_replies_of [] (joined_events turns)))) (laws.valid tested (concat sents) (joined_events turns) all_sent)

  told : events_by [] frames ≡ answered turns
  told = told_by_turn tested h.key turns [] tt refl only

  -- ---- the end

  abbrev due_end : Option (InTurn Ending)
  due_end = last_or None (by_turn ending_in 0 turns)

  end_is : ends_echo (h.events count) ≡ has_end (joined_events turns)
  end_is = ap (λ (l : List Event). ends_echo l) (sym all_events) ∙ over_by_end (echo_replies_of [] (joined_events turns)) (joined_events turns) only

  ended_is : (b : Bool) → has_end (joined_events turns) ≡ b → transcript.ended ≡ cond b Peer Tester
  ended_is b e = h.ended ∙ ap (λ c. cond c Peer Tester) (end_is ∙ e)

  last_turn : (n : ℕ) → has_end (joined_events (take (n + 1) turns)) ≡ true → n < count → count ≤ n + 1
  last_turn n ends less = elim (cases_lt (n + 1) count) [
    | inr late ↦ late
    | inl early ↦
        let same = so_far (n + 1) (omega (arith, less)) in
        let lasts : OnlyLastEnds (h.events (n + 1)) = only_by laws tested (sent_within transcript (n + 1)) [] (h.events (n + 1)) (h.has_events (n + 1) (omega (arith, less))) in
        let over : ends_echo (h.events (n + 1)) ≡ true = over_by_end (echo_replies_of [] (h.events (n + 1))) (h.events (n + 1)) lasts ∙ (ap (λ (l : List Event). has_end l) (sym same) ∙ ends) in
        absurd (let wrong : true ≡ false = sym over ∙ h.goes_on (n + 1) early in cc)
  ]

  ends_by : (b : Bool) → has_end (joined_events turns) ≡ b → EndsRightly due_end count transcript.ended
  ends_by false e = subst (λ (o : Option (InTurn Ending)). EndsRightly o count transcript.ended) (sym (ap (λ (l : List (InTurn Ending)). last_or None l) (ends_nowhere 0 turns e))) (ended_is false e)
  ends_by true e =
      let at = ends_somewhere 0 turns only e in
      let late = last_turn at.later at.by_then (omega (arith, at.there, turns_as_many)) in
      subst (λ (o : Option (InTurn Ending)). EndsRightly o count transcript.ended) (sym (ap (λ (l : List (InTurn Ending)). last_or None l) at.found)) (ended_is true e, omega (arith, late))

  -- ---- the verdict

  rest : (b : Bool) × ((b ≡ true) ↔ HasRest tested (concat sents) (joined_events turns))
  rest = rest_told laws tested (concat sents) (joined_events turns) h.bytes all_sent

  got_end : answered_end due_end ≡ last_or None (by_turn ending_in 0 (events_by [] frames))
  got_end = sym (ap (λ (l : List (List Event)). last_or None (by_turn ending_in 0 l)) told ∙ (ap (λ (l : List (InTurn Ending)). last_or None l) (end_when_due 0 turns) ∙ last_of_map None (by_turn ending_in 0 turns)))

  got_replies : by_turn due_for 0 turns ≡ by_turn got_in 0 (events_by [] frames)
  got_replies = sym (ap (λ (l : List (List Event)). by_turn got_in 0 l) told ∙ got_when_due 0 turns)

  evidence_is : IsEvidenceOf tested transcript (fully_answered (by_turn due_for 0 turns) due_end rest.0 count transcript.ended)
  evidence_is = record {
    due = record { events = turns; are_events = are_sent; replies = refl; ending = refl; has_rest = rest.1 };
    got = subst (λ (l : List (List ℕ)). IsDirectionOf (other_role tested) got_in l (record { replies = by_turn due_for 0 turns; ending = answered_end due_end; has_rest = false })) (sym gots_are)
        (valid_direction laws.frames (other_role tested) frames layout keys valid got_in (record { replies = by_turn due_for 0 turns; ending = answered_end due_end; has_rest = false }) got_replies got_end refl);
    turns = refl;
    ended = refl;
    uncounted = refl;
  }

  counted_is : HasDoomCounted tested transcript (fully_answered (by_turn due_for 0 turns) due_end rest.0 count transcript.ended) (fully_answered (by_turn due_for 0 turns) due_end rest.0 count transcript.ended)
  counted_is = record {
    replies = refl;
    ending = counts_rightly tested transcript due_end count (ends_by (has_end (joined_events turns)) refl);
    has_rest = refl;
    got = refl;
    turns = refl;
    ended = refl;
    answers_doom = (λ e. absurd (let wrong : false ≡ true = e in cc), λ d. absurd (answers_no_doom tested sents due_end d));
  }

  pub echo_passes : IsVerdictOf tested transcript Pass
  echo_passes = record {
    evidence = fully_answered (by_turn due_for 0 turns) due_end rest.0 count transcript.ended;
    is_evidence = evidence_is;
    counted = fully_answered (by_turn due_for 0 turns) due_end rest.0 count transcript.ended;
    is_counted = counted_is;
    is_verdict = fully_answered_passes tested (by_turn due_for 0 turns) rest.0 count transcript.ended due_end (ends_by (has_end (joined_events turns)) refl);
  }
