-- What writing gives is a capture, and where format 1 gives back what was written.
use Rattle.std.proofs.Common.{◌≡◌, ◌≢◌, ◌∙◌, ℕ, ◌<◌, Bool, true, ◌&&◌, if◌then◌else◌, List, [], ◌∷◌, ◌++◌, length}
use Rattle.std.proofs.Common.{flat_map, ap, ap₂, sym, refl, subst, arith}
use Rattle.std.proofs.lemmas.List.{length-append}
use Rattle.std.specs.List.{AllByRecursion}
use Rattle.ws_base.specs.Bytes.{AreBytes}
use Rattle.ws_scripts.specs.declared.transcript.Turn.{Turn}
use Rattle.ws_scripts.specs.declared.transcript.Ended.{Ended}
use Rattle.ws_scripts.specs.declared.transcript.Ended.TheVariants.{Tester, Peer, Broken}
use Rattle.ws_scripts.specs.declared.transcript.Transcript.{Transcript}
use Rattle.ws_scripts.specs.declared.capture.line.Line.{Line}
use Rattle.ws_scripts.specs.declared.capture.line.Line.TheVariants.{Sent, Got}
use Rattle.ws_scripts.specs.CaptureLines.{HasLineBytes}
use Rattle.ws_scripts.specs.Captures.{AreOfBytes, AreParted, IsCaptureOf, as_read, end_as_read, line_if_any}
use Rattle.ws_scripts.specs.Captures.{lines_of_turn, run_into, run_together, written_capture}
use Rattle.ws_scripts.specs.Captures2.{AreAnsweredTurns}
use Rattle.ws_scripts.specs.Scripts.{has_any}
use Rattle.ws_scripts.proofs.CaptureTurns.{turns_run_together}

-- ---- what writing gives

turn_has_bytes : (sent got : List ℕ) (rest : List (Line (List ℕ))) → AreBytes sent → AreBytes got
    → AllByRecursion HasLineBytes rest
    → AllByRecursion HasLineBytes ((line_if_any Sent sent ++ line_if_any Got got) ++ rest)
turn_has_bytes [] [] rest h i all = all
turn_has_bytes [] (y ∷ got) rest h i all = ((omega arith, i), all)
turn_has_bytes (x ∷ sent) [] rest h i all = ((omega arith, h), all)
turn_has_bytes (x ∷ sent) (y ∷ got) rest h i all = ((omega arith, h), ((omega arith, i), all))

lines_have_bytes : (turns : List Turn) → AllByRecursion AreOfBytes turns
    → AllByRecursion HasLineBytes (flat_map lines_of_turn turns)
lines_have_bytes [] h = tt
lines_have_bytes (turn ∷ turns) h = turn_has_bytes turn.sent turn.got (flat_map lines_of_turn turns) h.0.0 h.0.1
    (lines_have_bytes turns h.1)

never_broken : (end : Ended) → end_as_read end ≢ Broken
never_broken Tester e = absurd cc
never_broken Peer e = absurd cc
never_broken Broken e = absurd cc

pub written_is_capture : (transcript : Transcript) → AllByRecursion AreOfBytes transcript.turns
    → IsCaptureOf (as_read transcript) (written_capture transcript)
written_is_capture transcript h = record {
  lines = flat_map lines_of_turn transcript.turns;
  have_bytes = lines_have_bytes transcript.turns h;
  is_text = refl;
  not_broken = never_broken transcript.ended;
  are_turns = sym (turns_run_together transcript.turns);
}

-- ---- where it is the same

has_any_there : (l : List ℕ) → 0 < length l → has_any l ≡ true
has_any_there [] some = absurd (omega arith)
has_any_there (b ∷ l) some = refl

both_there : (turn next : Turn) (turns : List Turn) → 0 < length turn.got → 0 < length next.sent
    → run_into turn (next ∷ turns) ≡ turn ∷ next ∷ turns
both_there turn next turns some there =
    ap₂ (λ (a b : Bool). if a && b then turn ∷ next ∷ turns else record {
      sent = turn.sent
          ++ next.sent;
      got = turn.got ++ next.got;
    } ∷ turns)
    (has_any_there turn.got some) (has_any_there next.sent there)

parted_stay : (turns : List Turn) → AreParted turns → run_together turns ≡ turns
parted_stay [] h = refl
parted_stay (turn ∷ []) h = ap (λ (b : Bool). if b then turn ∷ [] else []) (has_any_there (turn.sent ++ turn.got) h)
parted_stay (turn ∷ next ∷ turns) h =
    ap (λ (l : List Turn). run_into turn l) (parted_stay (next ∷ turns) h.2) ∙ both_there turn next turns h.0 h.1

same_as_read : (end : Ended) → end ≢ Broken → end_as_read end ≡ end
same_as_read Tester not = refl
same_as_read Peer not = refl
same_as_read Broken not = absurd (not refl)

pub parted_is_same : (transcript : Transcript) → AreParted transcript.turns → transcript.ended ≢ Broken
    → as_read transcript ≡ transcript
parted_is_same transcript h not =
    ap₂ (λ (t : List Turn) (e : Ended). record { turns = t; ended = e }) (parted_stay transcript.turns h)
    (same_as_read transcript.ended not)

-- ---- what format 1 gives back

first_sent : (turn : Turn) (turns : List Turn) → AreAnsweredTurns (turn ∷ turns) → 0 < length turn.sent
first_sent turn [] h = h
first_sent turn (next ∷ turns) h = h.0

answered_are_parted : (turns : List Turn) → AreAnsweredTurns turns → AreParted turns
answered_are_parted [] h = tt
answered_are_parted (turn ∷ []) h = omega (arith, h, length-append turn.sent turn.got)
answered_are_parted (turn ∷ next ∷ turns) h = (h.1, first_sent next turns h.2, answered_are_parted (next ∷ turns) h.2)

pub given_back : (transcript : Transcript) → AllByRecursion AreOfBytes transcript.turns
    → AreAnsweredTurns transcript.turns → transcript.ended ≢ Broken
    → IsCaptureOf transcript (written_capture transcript)
given_back transcript are answered not =
    subst (λ (t : Transcript). IsCaptureOf t (written_capture transcript))
    (parted_is_same transcript (answered_are_parted transcript.turns answered) not)
    (written_is_capture transcript are)
