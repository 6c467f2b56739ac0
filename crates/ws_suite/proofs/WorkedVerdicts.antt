-- Worked verdicts: a ping, and what is got for it; whether that is an answer; and doom.
use Rattle.std.proofs.Common.{◌≡◌, ◌≢◌, ℕ, ◌<◌, ◌≤◌, true, false, List, [], ◌∷◌, ◌++◌, Option, Some, None, MatchBool}
use Rattle.std.proofs.Common.{take, sym, refl, subst, arith, inl, inr, lit≤}
use Rattle.std.specs.List.{concat}
use Rattle.ws_wire.specs.declared.role.Role.TheVariants.{Client, Server}
use Rattle.ws_wire.specs.Stream.{SplitsInto}
use Rattle.ws_scripts.specs.declared.transcript.Ended.{Ended}
use Rattle.ws_scripts.specs.declared.transcript.Ended.TheVariants.{Tester, Peer, Broken}
use Rattle.ws_scripts.specs.declared.transcript.Transcript.{Transcript}
use Rattle.ws_suite.specs.declared.verdict.Verdict.TheVariants.{Pass, Loose, Fail}
use Rattle.ws_suite.specs.declared.verdict.FailWhy.{FailWhy}
use Rattle.ws_suite.specs.declared.verdict.FailWhy.TheVariants as fail
use Rattle.ws_suite.specs.declared.verdict.LooseWhy.{LooseWhy}
use Rattle.ws_suite.specs.declared.verdict.LooseWhy.TheVariants as loose
use Rattle.ws_suite.specs.declared.evidence.InTurn.{InTurn}
use Rattle.ws_suite.specs.declared.evidence.Ending.{Ending}
use Rattle.ws_suite.specs.declared.evidence.Reply.{Reply}
use Rattle.ws_suite.specs.declared.evidence.Direction.{Direction}
use Rattle.ws_suite.specs.declared.evidence.Evidence.{Evidence}
use Rattle.ws_suite.specs.Evidence.{IsDirectionOf, IsEvidenceOf, due_for, got_in, sent_turns}
use Rattle.ws_suite.specs.Growing.{AreTurnsAnswered, IsAnswered}
use Rattle.ws_suite.specs.Doom.{HasDoomCounted, IsDoomOf, IsDoomedAfter, counts_doom}
use Rattle.ws_suite.specs.Verdicts.{Fails, HasOtherClose, HasOtherEnd, IsLoose, IsNotFrames, IsVerdictOf, fail_number, loose_number}
use Rattle.ws_suite.specs.Examples.{in_one_turn, in_two_turns, ping_sent, pong, pong_got}
use Rattle.ws_suite.specs.InnerCollecting.{EventLaws, FrameLaws}
use Rattle.ws_suite.proofs.JudgeLemmas.{last_turns}
use Rattle.ws_suite.proofs.OneVerdict.{one_evidence}
use Rattle.ws_suite.proofs.ValidDirections.{valid_direction}
use Rattle.ws_suite.proofs.WorkedFrames.{answer, answer_fits, answer_valid, none_valid, ping, ping_fits, ping_valid, pings_valid}

-- ---- evidence without a close, a fault or a rest

abbrev saying : List (InTurn Reply) → Direction
saying replies = record { replies = replies; ending = None; has_rest = false }

abbrev quiet : List (InTurn Reply) → List (InTurn Reply) → ℕ → Ended → Evidence
quiet due got turns ended = record { due = saying due; got = saying got; turns = turns; ended = ended; answers_doom = false }

are_frames : (due got : List (InTurn Reply)) (turns : ℕ) (end : Ended) → IsNotFrames (quiet due got turns end) → ⊥
are_frames due got turns end (inl h) = absurd (let wrong : false ≡ true = h in cc)
are_frames due got turns end (inr (inl h)) = absurd (let wrong : false ≡ true = h.0 in cc)
are_frames due got turns end (inr (inr h)) = absurd (let wrong : false ≡ true = h.0 in cc)

no_close : (due got : List (InTurn Reply)) (turns : ℕ) (end : Ended) → HasOtherClose (quiet due got turns end) → ⊥
no_close due got turns end (inl h) = absurd (let wrong : false ≡ true = h.0 in cc)
no_close due got turns end (inr h) = absurd (let wrong : false ≡ true = h.1 in cc)

right_end : (due got : List (InTurn Reply)) (turns : ℕ) → HasOtherEnd Server (quiet due got turns Tester) → ⊥
right_end due got turns (inl h) = h.0 refl
right_end due got turns (inr h) = h.1 refl

-- where neither was sent or got nothing but what is doomed at the end is counted
counted_quietly : (transcript : Transcript) (due got : List (InTurn Reply)) (turns : ℕ) (end : Ended)
    → MatchBool (counts_doom Server transcript.ended None) (IsDoomOf Server (sent_turns transcript.turns) None) (◌≡◌ {A = Option (InTurn Ending)} None None)
    → HasDoomCounted Server transcript (quiet due got turns end) (quiet due got turns end)
counted_quietly transcript due got turns end h = record {
  replies = refl;
  ending = h;
  has_rest = refl;
  got = refl;
  turns = refl;
  ended = refl;
  answers_doom = (λ e. absurd (let wrong : false ≡ true = e in cc), λ d. absurd d);
}

-- ---- the five

abbrev answered : Ended → Evidence
answered end = quiet (pong 0 [] ∷ []) (pong 0 [] ∷ []) 1 end

-- of an answered ping no Fail applies but that of the end
answered_fails : (end : Ended) (why : FailWhy) → why ≢ fail.End → Fails Server (answered end) why → ⊥
answered_fails end fail.NotFrames other h = are_frames (pong 0 [] ∷ []) (pong 0 [] ∷ []) 1 end h
answered_fails end fail.Early other (inl h) = absurd (let wrong : false ≡ true = h in cc)
answered_fails end fail.Early other (inr (inl h)) = absurd (let wrong : false ≡ true = h in cc)
answered_fails end fail.Early other (inr (inr h)) = absurd h.0
answered_fails end fail.Messages other h = h refl
answered_fails end fail.Pongs other (inl h) = absurd (let wrong : false ≡ true = h in cc)
answered_fails end fail.Pongs other (inr h) = h.2 (record { due = pong 0 []; is_due = refl; got = pong 0 []; is_got = refl; same = refl; turn = lit≤ tt })
answered_fails end fail.Close other h = no_close (pong 0 [] ∷ []) (pong 0 [] ∷ []) 1 end h
answered_fails end fail.End other h = other refl

passes : (why : FailWhy) → Fails Server (answered Tester) why → ⊥
passes fail.NotFrames h = answered_fails Tester fail.NotFrames (λ e. absurd cc) h
passes fail.Early h = answered_fails Tester fail.Early (λ e. absurd cc) h
passes fail.Messages h = answered_fails Tester fail.Messages (λ e. absurd cc) h
passes fail.Pongs h = answered_fails Tester fail.Pongs (λ e. absurd cc) h
passes fail.Close h = answered_fails Tester fail.Close (λ e. absurd cc) h
passes fail.End h = right_end (pong 0 [] ∷ []) (pong 0 [] ∷ []) 1 h

nothing_loose : (why : LooseWhy) → IsLoose Server (answered Tester) why → ⊥
nothing_loose loose.PongsSkipped h = omega (arith, h.0)
nothing_loose loose.PongElsewhere h = h (inr ([], refl, refl))
nothing_loose loose.OtherCode (got, due, code, e, f, g, other) = absurd cc
nothing_loose loose.LateEnd (due, e, less, rest) = absurd cc
nothing_loose loose.EchoShort h = absurd (let wrong : false ≡ true = h.0 in cc)
nothing_loose loose.BrokenEnd h = absurd (let wrong : Tester ≡ Broken = h in cc)
nothing_loose loose.OwnFault h = absurd h
nothing_loose loose.OwnClose h = absurd h
nothing_loose loose.OwnEnd h = absurd h
nothing_loose loose.LateFault h = absurd h
nothing_loose loose.Tolerated h = absurd h
nothing_loose loose.NoClose h = absurd h
nothing_loose loose.BehindClose h = absurd h
nothing_loose loose.TooBig h = absurd h

below_end : (lower : FailWhy) → fail_number lower < 6 → Fails Server (answered Peer) lower → ⊥
below_end fail.NotFrames less h = answered_fails Peer fail.NotFrames (λ e. absurd cc) h
below_end fail.Early less h = answered_fails Peer fail.Early (λ e. absurd cc) h
below_end fail.Messages less h = answered_fails Peer fail.Messages (λ e. absurd cc) h
below_end fail.Pongs less h = answered_fails Peer fail.Pongs (λ e. absurd cc) h
below_end fail.Close less h = answered_fails Peer fail.Close (λ e. absurd cc) h
below_end fail.End less h = absurd (omega (arith, less))

abbrev early : Evidence
early = quiet (pong 1 [] ∷ []) (pong 0 [] ∷ []) 2 Tester

below_early : (lower : FailWhy) → fail_number lower < 2 → Fails Server early lower → ⊥
below_early fail.NotFrames less h = are_frames (pong 1 [] ∷ []) (pong 0 [] ∷ []) 2 Tester h
below_early fail.Early less h = absurd (omega (arith, less))
below_early fail.Messages less h = absurd (omega (arith, less))
below_early fail.Pongs less h = absurd (omega (arith, less))
below_early fail.Close less h = absurd (omega (arith, less))
below_early fail.End less h = absurd (omega (arith, less))

abbrev silent : Evidence
silent = quiet (pong 0 [] ∷ []) [] 1 Tester

below_pongs : (lower : FailWhy) → fail_number lower < 4 → Fails Server silent lower → ⊥
below_pongs fail.NotFrames less h = are_frames (pong 0 [] ∷ []) [] 1 Tester h
below_pongs fail.Early less (inl h) = absurd (let wrong : false ≡ true = h in cc)
below_pongs fail.Early less (inr (inl h)) = absurd (let wrong : false ≡ true = h in cc)
below_pongs fail.Early less (inr (inr h)) = absurd h.0
below_pongs fail.Messages less h = h refl
below_pongs fail.Pongs less h = absurd (omega (arith, less))
below_pongs fail.Close less h = absurd (omega (arith, less))
below_pongs fail.End less h = absurd (omega (arith, less))

abbrev latest : Evidence
latest = quiet (pong 0 [] ∷ pong 0 [] ∷ []) (pong 0 [] ∷ []) 1 Tester

latest_fails : (why : FailWhy) → Fails Server latest why → ⊥
latest_fails fail.NotFrames h = are_frames (pong 0 [] ∷ pong 0 [] ∷ []) (pong 0 [] ∷ []) 1 Tester h
latest_fails fail.Early (inl h) = absurd (let wrong : false ≡ true = h in cc)
latest_fails fail.Early (inr (inl h)) = absurd (let wrong : false ≡ true = h in cc)
latest_fails fail.Early (inr (inr h)) = absurd h.0
latest_fails fail.Messages h = h refl
latest_fails fail.Pongs (inl h) = absurd (let wrong : false ≡ true = h in cc)
latest_fails fail.Pongs (inr h) = h.2 (record { due = pong 0 []; is_due = refl; got = pong 0 []; is_got = refl; same = refl; turn = lit≤ tt })
latest_fails fail.Close h = no_close (pong 0 [] ∷ pong 0 [] ∷ []) (pong 0 [] ∷ []) 1 Tester h
latest_fails fail.End h = right_end (pong 0 [] ∷ pong 0 [] ∷ []) (pong 0 [] ∷ []) 1 h

below_skipped : (lower : LooseWhy) → loose_number lower < 1 → IsLoose Server latest lower → ⊥
below_skipped loose.PongsSkipped less h = absurd (omega (arith, less))
below_skipped loose.PongElsewhere less h = absurd (omega (arith, less))
below_skipped loose.OtherCode less h = absurd (omega (arith, less))
below_skipped loose.LateEnd less h = absurd (omega (arith, less))
below_skipped loose.EchoShort less h = absurd (omega (arith, less))
below_skipped loose.BrokenEnd less h = absurd (omega (arith, less))
below_skipped loose.OwnFault less h = absurd h
below_skipped loose.OwnClose less h = absurd h
below_skipped loose.OwnEnd less h = absurd h
below_skipped loose.LateFault less h = absurd h
below_skipped loose.Tolerated less h = absurd h
below_skipped loose.NoClose less h = absurd h
below_skipped loose.BehindClose less h = absurd h
below_skipped loose.TooBig less h = absurd h

-- ---- the five transcripts

module _ (laws : FrameLaws) where
  ping_due : IsDirectionOf Server due_for (ping_sent ∷ []) (saying (pong 0 [] ∷ []))
  ping_due = valid_direction laws Server ((ping ∷ []) ∷ []) (ping_fits, tt) (refl, tt) ping_valid due_for (saying (pong 0 [] ∷ [])) refl refl refl

  pings_due : IsDirectionOf Server due_for ((ping_sent ++ ping_sent) ∷ []) (saying (pong 0 [] ∷ pong 0 [] ∷ []))
  pings_due = valid_direction laws Server ((ping ∷ ping ∷ []) ∷ []) (ping_fits, (ping_fits, tt)) (refl, (refl, tt)) pings_valid due_for (saying (pong 0 [] ∷ pong 0 [] ∷ [])) refl refl refl

  later_ping_due : IsDirectionOf Server due_for ([] ∷ ping_sent ∷ []) (saying (pong 1 [] ∷ []))
  later_ping_due = valid_direction laws Server ([] ∷ (ping ∷ []) ∷ []) (ping_fits, tt) (refl, tt) ping_valid due_for (saying (pong 1 [] ∷ [])) refl refl refl

  pong_is_got : IsDirectionOf Client got_in (pong_got ∷ []) (saying (pong 0 [] ∷ []))
  pong_is_got = valid_direction laws Client ((answer ∷ []) ∷ []) (answer_fits, tt) (refl, tt) answer_valid got_in (saying (pong 0 [] ∷ [])) refl refl refl

  first_pong_is_got : IsDirectionOf Client got_in (pong_got ∷ [] ∷ []) (saying (pong 0 [] ∷ []))
  first_pong_is_got = valid_direction laws Client ((answer ∷ []) ∷ [] ∷ []) (answer_fits, tt) (refl, tt) answer_valid got_in (saying (pong 0 [] ∷ [])) refl refl refl

  nothing_is_got : IsDirectionOf Client got_in ([] ∷ []) (saying [])
  nothing_is_got = valid_direction laws Client ([] ∷ []) tt tt none_valid got_in (saying []) refl refl refl

  -- the bytes are whole frames
  ping_splits : SplitsInto (concat (take 1 (ping_sent ∷ []))) (ping ∷ []) []
  ping_splits = record { each = (ping_fits, tt); whole = refl; left = λ x more fits e. absurd cc }

  ping_is_whole : IsDoomedAfter Server (ping_sent ∷ []) 1 → ⊥
  ping_is_whole (frames, rest, d) =
      let same = laws.one_split (concat (take 1 (ping_sent ∷ []))) (ping ∷ []) frames [] rest ping_splits d.split in
      d.doomed.begun (sym same.1)

  pub answered_ping : IsVerdictOf Server (in_one_turn ping_sent pong_got Tester) Pass
  answered_ping = record {
    evidence = answered Tester;
    is_evidence = record { due = ping_due; got = pong_is_got; turns = refl; ended = refl; uncounted = refl };
    counted = answered Tester;
    is_counted = counted_quietly _ (pong 0 [] ∷ []) (pong 0 [] ∷ []) 1 Tester refl;
    is_verdict = (passes, nothing_loose);
  }

  pub ended_by_peer : IsVerdictOf Server (in_one_turn ping_sent pong_got Peer) (Fail fail.End)
  ended_by_peer = record {
    evidence = answered Peer;
    is_evidence = record { due = ping_due; got = pong_is_got; turns = refl; ended = refl; uncounted = refl };
    counted = answered Peer;
    is_counted = counted_quietly _ (pong 0 [] ∷ []) (pong 0 [] ∷ []) 1 Peer ping_is_whole;
    is_verdict = (inr (refl, λ e. absurd cc), below_end);
  }

  pub before_its_ping : IsVerdictOf Server (in_two_turns [] pong_got ping_sent [] Tester) (Fail fail.Early)
  before_its_ping = record {
    evidence = early;
    is_evidence = record { due = later_ping_due; got = first_pong_is_got; turns = refl; ended = refl; uncounted = refl };
    counted = early;
    is_counted = counted_quietly _ early.due.replies early.got.replies 2 Tester refl;
    is_verdict = (inr (inl refl), below_early);
  }

  pub no_answer : IsVerdictOf Server (in_one_turn ping_sent [] Tester) (Fail fail.Pongs)
  no_answer = record {
    evidence = silent;
    is_evidence = record { due = ping_due; got = nothing_is_got; turns = refl; ended = refl; uncounted = refl };
    counted = silent;
    is_counted = counted_quietly _ silent.due.replies silent.got.replies 1 Tester refl;
    is_verdict = (inr (refl, lit≤ tt, λ last. absurd (let wrong : None ≡ Some last.got = last.is_got in cc)), below_pongs);
  }

  pub latest_answered : IsVerdictOf Server (in_one_turn (ping_sent ++ ping_sent) pong_got Tester) (Loose loose.PongsSkipped)
  latest_answered = record {
    evidence = latest;
    is_evidence = record { due = pings_due; got = pong_is_got; turns = refl; ended = refl; uncounted = refl };
    counted = latest;
    is_counted = counted_quietly _ latest.due.replies latest.got.replies 1 Tester refl;
    is_verdict = (
      latest_fails,
      ((lit≤ tt, record { due = pong 0 []; is_due = refl; got = pong 0 []; is_got = refl; same = refl; turn = lit≤ tt }), below_skipped),
    );
  }

  -- ---- what has come

  pub ping_is_answered : AreTurnsAnswered Server (in_one_turn ping_sent pong_got Tester).turns
  ping_is_answered = record {
    evidence = answered Tester;
    is_evidence = record { due = ping_due; got = pong_is_got; turns = refl; ended = refl; uncounted = refl };
    answered = (λ less. omega (arith, less), λ some. record { due = pong 0 []; is_due = refl; got = pong 0 []; is_got = refl; same = refl; turn = lit≤ tt });
  }

  pub latest_is_answered : AreTurnsAnswered Server (in_one_turn (ping_sent ++ ping_sent) pong_got Tester).turns
  latest_is_answered = record {
    evidence = latest;
    is_evidence = record { due = pings_due; got = pong_is_got; turns = refl; ended = refl; uncounted = refl };
    answered = (λ less. omega (arith, less), λ some. record { due = pong 0 []; is_due = refl; got = pong 0 []; is_got = refl; same = refl; turn = lit≤ tt });
  }

  module _ (events : EventLaws) where
    shown_is : (transcript : Transcript) (x y : Evidence) → IsEvidenceOf Server transcript x → IsEvidenceOf Server transcript y → IsAnswered x → IsAnswered y
    shown_is transcript x y p q h = subst (λ (e : Evidence). IsAnswered e) (one_evidence events Server transcript x y p q) h

    pub silence_is_none : AreTurnsAnswered Server (in_one_turn ping_sent [] Tester).turns → ⊥
    silence_is_none a =
        let h = shown_is (in_one_turn ping_sent [] Tester) a.evidence silent a.is_evidence (record { due = ping_due; got = nothing_is_got; turns = refl; ended = refl; uncounted = refl }) a.answered in
        let last = h.1 (lit≤ tt) in
        absurd (let wrong : None ≡ Some last.got = last.is_got in cc)

    pub earlier_is_none : AreTurnsAnswered Server (in_two_turns [] pong_got ping_sent [] Tester).turns → ⊥
    earlier_is_none a =
        let h = shown_is (in_two_turns [] pong_got ping_sent [] Tester) a.evidence early a.is_evidence (record { due = later_ping_due; got = first_pong_is_got; turns = refl; ended = refl; uncounted = refl }) a.answered in
        let wrong : 1 ≤ 0 = last_turns (pong 1 [] ∷ []) (pong 0 [] ∷ []) (pong 1 []) (pong 0 []) refl refl (h.1 (lit≤ tt)) in
        omega (arith, wrong)
