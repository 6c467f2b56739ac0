-- The evidence by the protocol of a transcript in which both ends sent whole valid frames.
use Rattle.std.proofs.Common.{◌≡◌, ◌∙◌, ℕ, true, false, List, [], length, map, sym}
use Rattle.std.proofs.Common.{refl, subst, inr, append-nil, arith, ap, Bool, MatchBool}
use Rattle.ws_suite.specs.Matching.{ends_with_close}
use Rattle.ws_suite.specs.declared.evidence.Reply.{Reply}
use Rattle.ws_suite.specs.declared.evidence.InTurn.{InTurn}
use Rattle.std.proofs.lemmas.List.{take_all}
use Rattle.std.specs.List.{AllByRecursion, concat}
use Rattle.ws_wire.specs.declared.role.Role.{Role}
use Rattle.ws_wire.specs.Frame.{KeyedFrame, FitsTheLayout, stream_bytes}
use Rattle.ws_wire.specs.Stream.{SplitsInto}
use Rattle.ws_session.specs.declared.reason.Reason.TheVariants.{CloseCode}
use Rattle.ws_session.specs.Events.{HasEvents}
use Rattle.ws_session.specs.Faults.{HasNoFault, KeysFit, frames_of}
use Rattle.ws_session.specs.Sends.{most_limits}
use Rattle.ws_session.specs.Validity.{AreValidFrames}
use Rattle.ws_session.proofs.ValidStreams.{valid_has_none}
use Rattle.ws_scripts.specs.declared.transcript.Transcript.{Transcript}
use Rattle.ws_suite.specs.declared.evidence.Evidence.{Evidence}
use Rattle.ws_suite.specs.Evidence.{HasRest, IsDirectionOf, IsEvidenceOf, by_turn, due_for, got_in, got_turns, joined_events, other_role, sent_turns}
use Rattle.ws_suite.specs.Doom.{AnswersDoom, CountsAs, IsDoomedAfter}
use Rattle.ws_suite.specs.Marks.{FailsByUndefinedCode, HasUndefinedCodeCounted}
use Rattle.ws_suite.specs.Protocol.{IsMarkedEvidenceOf}
use Rattle.ws_suite.specs.InnerCollecting.{EventLaws, FrameLaws}
use Rattle.ws_suite.proofs.MarkLemmas.{faultless_marks, marks_of, no_pongs}
use Rattle.ws_suite.proofs.TurnEnds.{all_by_turn, last_ending}
use Rattle.ws_suite.proofs.ValidDirections.{all_bytes, are_by_turn, events_by, joined_frames, no_rest, valid_direction}

-- ---- one direction

-- whole valid frames: they fit the layout, and are masked as they must where they come to this role
pub record AreWhole (role : Role) (turns : List (List KeyedFrame)) : Type 0 where
  pub layout : AllByRecursion FitsTheLayout (joined_frames turns)
  pub keys : KeysFit role (joined_frames turns)
  pub valid : AreValidFrames most_limits (frames_of (joined_frames turns))

module _ (laws : FrameLaws) (role : Role) (turns : List (List KeyedFrame)) (are : AreWhole role turns) where
  -- they hold no fault
  pub faultless : HasNoFault role most_limits (concat (map stream_bytes turns))
  faultless =
      subst (λ (l : List ℕ). HasNoFault role most_limits l) (sym (all_bytes laws role turns are.layout are.keys are.valid))
      (valid_has_none role most_limits (joined_frames turns) are.layout are.keys are.valid)

  pub no_undefined_code : (code : ℕ) → FailsByUndefinedCode role (concat (map stream_bytes turns)) code → ⊥
  no_undefined_code code fails = faultless fails.place CloseCode fails.is_first.fault

  whole_events : HasEvents role most_limits (concat (map stream_bytes turns)) (joined_events (events_by [] turns))
  whole_events = all_by_turn role (map stream_bytes turns) (events_by [] turns) (are_by_turn laws role turns are.layout are.keys are.valid)

  -- and doom nothing
  whole_split : SplitsInto (concat (map stream_bytes turns)) (joined_frames turns) []
  whole_split = record {
    each = are.layout;
    whole = all_bytes laws role turns are.layout are.keys are.valid ∙ sym (append-nil (stream_bytes (joined_frames turns)));
    left = λ x more fits e. absurd cc;
  }

  pub not_doomed : IsDoomedAfter role (map stream_bytes turns) (length (map stream_bytes turns)) → ⊥
  not_doomed (frames, rest, doomed) =
      let all : SplitsInto (concat (map stream_bytes turns)) frames rest =
      subst (λ (l : List (List ℕ)). SplitsInto (concat l) frames rest) (take_all (length (map stream_bytes turns)) (map stream_bytes turns) (omega arith)) doomed.split in
      let same = laws.one_split (concat (map stream_bytes turns)) (joined_frames turns) frames [] rest whole_split all in
      doomed.doomed.begun (sym same.1)

-- ---- both directions

-- the evidence of these frames, turn by turn
abbrev pub evidence_of : List (List KeyedFrame) → List (List KeyedFrame) → Transcript → Evidence
evidence_of sent got transcript = record {
  due = record { replies = by_turn due_for 0 (events_by [] sent); ending = last_ending (events_by [] sent); has_rest = false };
  got = record { replies = by_turn got_in 0 (events_by [] got); ending = last_ending (events_by [] got); has_rest = false };
  turns = length transcript.turns;
  ended = transcript.ended;
  answers_doom = false;
}

module _ (laws : FrameLaws) (events : EventLaws) (tested : Role) (transcript : Transcript) (sent got : List (List KeyedFrame)) (sent_are : AreWhole tested sent) (got_are : AreWhole (other_role tested) got)
    (sent_is : map stream_bytes sent ≡ sent_turns transcript.turns) (got_is : map stream_bytes got ≡ got_turns transcript.turns) where
  abbrev shown : Evidence
  shown = evidence_of sent got transcript

  is_shown : IsEvidenceOf tested transcript shown
  is_shown = record {
    due = subst (λ (l : List (List ℕ)). IsDirectionOf tested due_for l shown.due) sent_is (valid_direction laws tested sent sent_are.layout sent_are.keys sent_are.valid due_for shown.due refl refl refl);
    got = subst (λ (l : List (List ℕ)). IsDirectionOf (other_role tested) got_in l shown.got) got_is (valid_direction laws (other_role tested) got got_are.layout got_are.keys got_are.valid got_in shown.got refl refl refl);
    turns = refl;
    ended = refl;
    uncounted = refl;
  }

  no_code : (code : ℕ) → FailsByUndefinedCode (other_role tested) (concat (got_turns transcript.turns)) code → ⊥
  no_code code = subst (λ (l : List (List ℕ)). FailsByUndefinedCode (other_role tested) (concat l) code → ⊥) got_is (no_undefined_code laws (other_role tested) got got_are code)

  is_closed : HasUndefinedCodeCounted tested transcript shown shown
  is_closed = record { due = refl; replies = refl; ending = inr (no_code, refl); has_rest = refl; turns = refl; ended = refl; answers_doom = refl }

  pub none_doomed : IsDoomedAfter tested (sent_turns transcript.turns) (length (sent_turns transcript.turns)) → ⊥
  none_doomed = subst (λ (l : List (List ℕ)). IsDoomedAfter tested l (length l) → ⊥) sent_is (not_doomed laws tested sent sent_are)

  all_got : HasEvents (other_role tested) most_limits (concat (got_turns transcript.turns)) (joined_events (events_by [] got))
  all_got = subst (λ (l : List (List ℕ)). HasEvents (other_role tested) most_limits (concat l) (joined_events (events_by [] got))) got_is (whole_events laws (other_role tested) got got_are)

  no_got_rest : HasRest (other_role tested) (concat (got_turns transcript.turns)) (joined_events (events_by [] got)) → ⊥
  no_got_rest = subst (λ (l : List (List ℕ)). HasRest (other_role tested) (concat l) (joined_events (events_by [] got)) → ⊥) got_is (no_rest laws (other_role tested) got got_are.layout got_are.keys got_are.valid)

  whichever : {P Q : Type 0} (b : Bool) → P → Q → MatchBool b P Q
  whichever true p q = p
  whichever false p q = q

  pub is_marked : CountsAs tested transcript shown.got.ending shown.due.ending shown.due.ending → (AnswersDoom tested (sent_turns transcript.turns) shown.got.ending shown.due.ending → ⊥)
      → IsMarkedEvidenceOf tested transcript shown (marks_of false (joined_events (events_by [] sent)) (joined_events (events_by [] got)))
  is_marked counts answers = record {
    shown = shown;
    is_shown = is_shown;
    closed = shown;
    is_closed = is_closed;
    doomed = shown;
    is_doomed = record {
      replies = refl;
      ending = counts;
      has_rest = refl;
      got = refl;
      turns = refl;
      ended = refl;
      answers_doom = (λ e. absurd (let wrong : false ≡ true = e in cc), λ d. absurd (answers d));
    };
    is_counted = record {
      pongs = [];
      are_pongs = whichever (ends_with_close shown.got.ending)
          (no_pongs events (other_role tested) (concat (got_turns transcript.turns)) (joined_events (events_by [] got)) all_got no_got_rest (got_turns transcript.turns) refl) refl;
      is_counted = ap (λ (l : List (InTurn Reply)). record {
        due = shown.due;
        got = record { replies = l; ending = shown.got.ending; has_rest = shown.got.has_rest };
        turns = shown.turns;
        ended = shown.ended;
        answers_doom = shown.answers_doom;
      }) (sym (append-nil shown.got.replies));
    };
    are_marks = faultless_marks events tested transcript (joined_events (events_by [] sent)) (joined_events (events_by [] got))
        (subst (λ (l : List (List ℕ)). HasEvents tested most_limits (concat l) (joined_events (events_by [] sent))) sent_is (whole_events laws tested sent sent_are))
        all_got no_got_rest
        (subst (λ (l : List (List ℕ)). HasNoFault tested most_limits (concat l)) sent_is (faultless laws tested sent sent_are));
  }
