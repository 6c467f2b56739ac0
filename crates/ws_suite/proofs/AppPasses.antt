-- The transcript of an application that keeps the protocol and sends no close of its own has the verdict Pass.
use Rattle.std.proofs.Common.{◌≡◌, ◌∙◌, ℕ, ◌+◌, ◌<◌, ◌≤◌, ◌↔◌, Bool, true, false, List, [], ◌++◌, append-nil, length, take, drop}
use Rattle.std.proofs.Common.{Option, Some, None, MatchBool, ap, sym, refl, subst, arith, inl, inr}
use Rattle.std.proofs.Math.Seq.{drop-append_seam}
use Rattle.std.specs.List.{concat}
use Rattle.ws_wire.specs.declared.role.Role.{Role}
use Rattle.ws_wire.specs.Stream.{SplitsIntoAnyForm}
use Rattle.ws_session.specs.declared.event.Event.{Event}
use Rattle.ws_session.specs.Events.{HasEvents}
use Rattle.ws_session.specs.Sends.{most_limits}
use Rattle.ws_scripts.specs.declared.transcript.Transcript.{Transcript}
use Rattle.ws_suite.specs.declared.verdict.Verdict.TheVariants.{Pass}
use Rattle.ws_suite.specs.declared.evidence.InTurn.{InTurn}
use Rattle.ws_suite.specs.declared.evidence.Ending.{Ending}
use Rattle.ws_suite.specs.declared.evidence.Evidence.{Evidence}
use Rattle.ws_suite.specs.declared.evidence.Reply.{Reply}
use Rattle.ws_suite.specs.Evidence.{AreEventsByTurn, HasRest, IsEvidenceOf, by_turn, due_for, got_in, got_turns, joined_events, other_role, sent_turns}
use Rattle.ws_suite.specs.AppFairness.{IsAppTranscript, SendsNoClose}
use Rattle.ws_suite.specs.Doom.{AnswersDoom, CountsAs, HasDoomCounted, IsDoomOf, counts_doom}
use Rattle.ws_suite.specs.Fairness.{sent_within}
use Rattle.ws_suite.specs.Marks.{ArePongsBehind, FailsByUndefinedCode, HasPongsCounted, HasUndefinedCodeCounted}
use Rattle.ws_suite.specs.Matching.{ends_with_close}
use Rattle.ws_suite.specs.Protocol.{IsProtocolVerdictOf}
use Rattle.ws_suite.specs.InnerEchoReplyLaws.{EchoReplyLaws}
use Rattle.ws_suite.proofs.AppDirections.{due_ends, frames, got_direction, got_ends, got_shown, gots_are, keys, layout, sent_as_many, told, told_by_turn, valid}
use Rattle.ws_suite.proofs.AppLooses.{no_doom, none_earlier, nowhere_loose}
use Rattle.ws_suite.proofs.AppVerdicts.{IsCountedOf, fails_nowhere}
use Rattle.ws_suite.proofs.MarkLemmas.{marks_told}
use Rattle.ws_suite.proofs.TurnEnds.{all_by_turn, last_ending}
use Rattle.ws_suite.proofs.TurnsAdded.{Grows, added_from, added_so_far, length-added, rest_told}
use Rattle.ws_suite.proofs.ValidDirections.{no_rest}
use Rattle.ws_suite.proofs.ValidEvidence.{AreWhole, no_undefined_code}
use Rattle.ws_suite.proofs.WorkedFrames.{none_valid}

counted_none_by : (b : Bool) (tested : Role) (turns : List (List ℕ)) (o : Option (InTurn Ending)) → b ≡ false → o ≡ None → MatchBool b (IsDoomOf tested turns o) (o ≡ None)
counted_none_by true tested turns o e none = absurd (let wrong : true ≡ false = e in cc)
counted_none_by false tested turns o e none = none

nothing_splits : SplitsIntoAnyForm [] [] []
nothing_splits = record { each = tt; whole = refl; left = λ x more is e. absurd cc }

whichever : {P Q : Type 0} (b : Bool) → P → Q → MatchBool b P Q
whichever true p q = p
whichever false p q = q

module _ (laws : EchoReplyLaws) (tested : Role) (transcript : Transcript) (app : IsAppTranscript tested transcript) where
  abbrev count : ℕ
  count = length transcript.turns

  abbrev sents : List (List ℕ)
  sents = sent_turns transcript.turns

  abbrev got : List (List Event)
  got = told tested transcript app

  -- ---- what was sent

  first_none : app.events 0 ≡ []
  first_none = laws.session.one_list tested most_limits [] (app.events 0) [] (app.has_events 0 (omega arith)) (laws.frames.told tested most_limits most_limits 0 [] tt tt none_valid)

  grown : (n : ℕ) → n < count → Grows app.events n
  grown n less =
      let turn = app.turn n less in
      turn.2 ∙ ap (λ (l : List Event). app.events n ++ l) (sym (ap (λ (l : List Event). drop (length (app.events n)) l) turn.2 ∙ drop-append_seam (app.events n) turn.0))

  abbrev due : List (List Event)
  due = added_from app.events 0 sents

  due_as_many : length due ≡ count
  due_as_many = length-added app.events 0 sents ∙ sent_as_many tested transcript app

  so_far : (n : ℕ) → n ≤ count → joined_events (take n due) ≡ app.events n
  so_far n less =
      ap (λ (l : List Event). l ++ joined_events (take n due)) (sym first_none)
      ∙ (added_so_far app.events 0 sents n (λ i short. subst (λ k. Grows app.events k) (let e : i ≡ 0 + i = omega arith in e) (grown i (omega (arith, short, sent_as_many tested transcript app)))) (omega (arith, less, sent_as_many tested transcript app))
      ∙ ap (λ k. app.events k) (let e : 0 + n ≡ n = omega arith in e))

  are : AreEventsByTurn tested sents due
  are = record {
    each = due_as_many ∙ sym (sent_as_many tested transcript app);
    so_far = λ n less. subst (λ (l : List Event). HasEvents tested most_limits (sent_within transcript n) l) (sym (so_far n (omega (arith, less, sent_as_many tested transcript app)))) (app.has_events n (omega (arith, less, sent_as_many tested transcript app)));
  }

  all_sent : HasEvents tested most_limits (concat sents) (joined_events due)
  all_sent = all_by_turn tested sents due are

  rest : (b : Bool) × ((b ≡ true) ↔ HasRest tested (concat sents) (joined_events due))
  rest = rest_told laws tested (concat sents) (joined_events due) app.bytes all_sent

  -- ---- what was got

  all_got : HasEvents (other_role tested) most_limits (concat (got_turns transcript.turns)) (joined_events got)
  all_got = all_by_turn (other_role tested) (got_turns transcript.turns) got (told_by_turn tested transcript app laws.frames)

  whole : HasRest (other_role tested) (concat (got_turns transcript.turns)) (joined_events got) → ⊥
  whole h =
      no_rest laws.frames (other_role tested) (frames tested transcript app) (layout tested transcript app) (keys tested transcript app) (valid tested transcript app)
      (subst (λ (l : List (List ℕ)). HasRest (other_role tested) (concat l) (joined_events got)) (gots_are tested transcript app) h)

  got_whole : AreWhole (other_role tested) (frames tested transcript app)
  got_whole = record { layout = layout tested transcript app; keys = keys tested transcript app; valid = valid tested transcript app }

  no_code : (code : ℕ) → FailsByUndefinedCode (other_role tested) (concat (got_turns transcript.turns)) code → ⊥
  no_code code fails =
      no_undefined_code laws.frames (other_role tested) (frames tested transcript app) got_whole code
      (subst (λ (l : List (List ℕ)). FailsByUndefinedCode (other_role tested) (concat l) code) (gots_are tested transcript app) fails)

  -- ---- the evidence

  abbrev shown : Evidence
  shown = record {
    due = record { replies = by_turn due_for 0 due; ending = last_ending due; has_rest = rest.0 };
    got = got_shown tested transcript app;
    turns = count;
    ended = transcript.ended;
    answers_doom = false;
  }

  abbrev with_replies : List (InTurn Reply) → Evidence
  with_replies replies = record {
    due = shown.due;
    got = record { replies = replies; ending = last_ending got; has_rest = false };
    turns = count;
    ended = transcript.ended;
    answers_doom = false;
  }

  -- no bytes are behind the last event, and so no pongs
  no_pongs_behind : ArePongsBehind (other_role tested) (got_turns transcript.turns) []
  no_pongs_behind = record {
    events = joined_events got;
    are_events = all_got;
    behind = [];
    stand_behind = record {
      front = concat (got_turns transcript.turns);
      parts = sym (append-nil (concat (got_turns transcript.turns)));
      same = all_got;
      fewest = λ n less has. whole (record { n = n; fewer = less; same = has });
    };
    frames = [];
    rest = [];
    split = nothing_splits;
    among = refl;
  }

  is_shown : IsEvidenceOf tested transcript shown
  is_shown = record {
    due = record { events = due; are_events = are; replies = refl; ending = refl; has_rest = rest.1 };
    got = got_direction tested transcript app laws.frames;
    turns = refl;
    ended = refl;
    uncounted = refl;
  }

  is_closed : HasUndefinedCodeCounted tested transcript shown shown
  is_closed = record { due = refl; replies = refl; ending = inr (no_code, refl); has_rest = refl; turns = refl; ended = refl; answers_doom = refl }

  module _ (none : SendsNoClose tested transcript app) where
    counts : CountsAs tested transcript (last_ending got) (last_ending due) (last_ending due)
    counts = elim (due_ends tested transcript app laws due are) [
      | inl nowhere ↦ subst (λ (o : Option (InTurn Ending)). CountsAs tested transcript (last_ending got) o (last_ending due)) (sym nowhere.is)
          (counted_none_by (counts_doom tested transcript.ended (last_ending got)) tested sents (last_ending due) (no_doom laws tested transcript app none due are nowhere.none) nowhere.is)
      | inr at ↦ subst (λ (o : Option (InTurn Ending)). CountsAs tested transcript (last_ending got) o (last_ending due)) (sym at.is) at.is
    ]

    answers_none : AnswersDoom tested sents (last_ending got) (last_ending due) → ⊥
    answers_none answers = elim (got_ends tested transcript app laws) [
      | inl nowhere ↦ subst (λ (o : Option (InTurn Ending)). AnswersDoom tested sents o (last_ending due)) nowhere.is answers
      | inr reply ↦
          let some = subst (λ (o : Option (InTurn Ending)). AnswersDoom tested sents o (last_ending due)) reply.is answers in
          elim (due_ends tested transcript app laws due are) [
            | inl nowhere ↦ subst (λ (o : Option (InTurn Ending)). AnswersDoom tested sents (Some (record { turn = reply.turn; what = reply.what })) o) nowhere.is some
            | inr at ↦
                let both = subst (λ (o : Option (InTurn Ending)). AnswersDoom tested sents (Some (record { turn = reply.turn; what = reply.what })) o) at.is some in
                none_earlier laws tested transcript app none due are at reply both.2
          ]
    ]

    is_doomed : HasDoomCounted tested transcript shown shown
    is_doomed = record {
      replies = refl;
      ending = counts;
      has_rest = refl;
      got = refl;
      turns = refl;
      ended = refl;
      answers_doom = (λ e. absurd (let wrong : false ≡ true = e in cc), λ d. absurd (answers_none d));
    }

    is_counted : HasPongsCounted tested transcript shown shown
    is_counted = record {
      pongs = [];
      are_pongs = whichever (ends_with_close (last_ending got)) no_pongs_behind refl;
      is_counted = ap (λ (l : List (InTurn Reply)). with_replies l) (sym (append-nil (by_turn got_in 0 got)));
    }

    counted_of : IsCountedOf tested transcript due got shown
    counted_of = record { dues = refl; pongs = []; gots = sym (append-nil (by_turn got_in 0 got)); ending = refl; no_rest = refl; counts = counts; turns = refl; ended = refl }

    pub app_passes : IsProtocolVerdictOf tested transcript Pass
    app_passes =
        let marks = marks_told laws.session tested transcript (joined_events due) (joined_events got) all_sent all_got whole app.bytes in
        record {
          counted = shown;
          marks = marks.0;
          is_evidence = record { shown = shown; is_shown = is_shown; closed = shown; is_closed = is_closed; doomed = shown; is_doomed = is_doomed; is_counted = is_counted; are_marks = marks.1 };
          is_verdict = (
            fails_nowhere laws tested transcript app due are shown counted_of marks.0,
            nowhere_loose laws tested transcript app none due are shown refl refl counted_of marks.0 marks.1.is_late.0,
          );
        }
