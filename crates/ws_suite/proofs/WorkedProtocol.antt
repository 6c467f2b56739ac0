-- Worked verdicts by the protocol: a message of its own, an end and a close of its own, a ping without an answer, and a
-- close without one.
use Rattle.std.proofs.Common.{◌≡◌, ◌∙◌, ℕ, ◌≤◌, ◌⊎◌, ◌++◌, Bool, true, false, List, [], ◌∷◌, Option, Some, None, ap, refl, arith, inl, inr, lit≤}
use Rattle.ws_wire.specs.declared.role.Role.TheVariants.{Client, Server}
use Rattle.ws_wire.specs.Frame.{KeyedFrame}
use Rattle.ws_scripts.specs.declared.transcript.Ended.{Ended}
use Rattle.ws_scripts.specs.declared.transcript.Ended.TheVariants.{Tester, Peer, Broken}
use Rattle.ws_suite.specs.declared.verdict.Verdict.TheVariants.{Pass, Loose, Fail}
use Rattle.ws_suite.specs.declared.verdict.FailWhy.{FailWhy}
use Rattle.ws_suite.specs.declared.verdict.FailWhy.TheVariants as fail
use Rattle.ws_suite.specs.declared.verdict.LooseWhy.{LooseWhy}
use Rattle.ws_suite.specs.declared.verdict.LooseWhy.TheVariants as loose
use Rattle.ws_suite.specs.declared.evidence.InTurn.{InTurn}
use Rattle.ws_suite.specs.declared.evidence.Ending.{Ending}
use Rattle.ws_suite.specs.declared.evidence.Ending.TheVariants.{Closed}
use Rattle.ws_suite.specs.declared.evidence.Evidence.{Evidence}
use Rattle.ws_suite.specs.declared.evidence.marks.Marks.{Marks}
use Rattle.ws_suite.specs.Evidence.{joined_events}
use Rattle.ws_suite.specs.Examples.{close_got, close_sent, in_one_turn, in_two_turns, ping_sent, policy_got, text_got, text_sent}
use Rattle.ws_suite.specs.Protocol.{FailsProtocol, HasOwnClose, HasOwnFault, IsLastAnswered, IsLooseByProtocol, IsMarkedEvidenceOf, IsProtocolVerdictOf}
use Rattle.ws_suite.specs.Verdicts.{fail_number, loose_number}
use Rattle.ws_suite.specs.InnerCollecting.{EventLaws, FrameLaws}
use Rattle.ws_suite.proofs.MarkLemmas.{marks_of}
use Rattle.ws_suite.proofs.ValidDirections.{events_by}
use Rattle.ws_suite.proofs.ValidEvidence.{AreWhole, evidence_of, is_marked, none_doomed}
use Rattle.ws_suite.proofs.WorkedFrames.{close, close_back, close_back_fits, close_fits, close_valid, none_valid, ping, ping_and_close_valid, ping_fits, policy_back, policy_back_fits, text, text_and_policy_valid, text_back, text_back_fits, text_back_valid, text_fits, text_valid}

abbrev marks_by : List (List KeyedFrame) → List (List KeyedFrame) → Marks
marks_by sent got = marks_of false (joined_events (events_by [] sent)) (joined_events (events_by [] got))

pub no_true : false ≡ true → ⊥
no_true e = absurd cc

-- ---- a message for a message

abbrev pub answered : Ended → Evidence
answered end = evidence_of ((text ∷ []) ∷ []) ((text_back ∷ []) ∷ []) (in_one_turn text_sent text_got end)

abbrev pub answered_marks : Marks
answered_marks = marks_by ((text ∷ []) ∷ []) ((text_back ∷ []) ∷ [])

pub answered_fails : (end : Ended) (why : FailWhy) → FailsProtocol Server (answered end) answered_marks why → ⊥
answered_fails end fail.NotFrames (inl h) = no_true h.0
answered_fails end fail.NotFrames (inr (inl h)) = no_true h.0
answered_fails end fail.NotFrames (inr (inr h)) = no_true h.3
answered_fails end fail.Early h = h
answered_fails end fail.Messages h = h
answered_fails end fail.Pongs h = omega (arith, h.0.0)
answered_fails end fail.Close h = no_true h.0.0
answered_fails end fail.End (inl h, at, big, free, its) = no_true h
answered_fails end fail.End (inr h, at, big, free, its) = no_true h.0

-- the Looses that don't apply, whoever ended it: all but the two of an end
abbrev is_of_end : LooseWhy → Bool
is_of_end loose.PongsSkipped = false
is_of_end loose.PongElsewhere = false
is_of_end loose.OtherCode = false
is_of_end loose.LateEnd = false
is_of_end loose.EchoShort = false
is_of_end loose.BrokenEnd = true
is_of_end loose.OwnFault = false
is_of_end loose.OwnClose = false
is_of_end loose.OwnEnd = true
is_of_end loose.LateFault = false
is_of_end loose.Tolerated = false
is_of_end loose.NoClose = false
is_of_end loose.BehindClose = false
is_of_end loose.TooBig = false

pub answered_loose : (end : Ended) (why : LooseWhy) → is_of_end why ≡ false → IsLooseByProtocol Server (answered end) answered_marks why → ⊥
answered_loose end loose.PongsSkipped other (inl h) = omega (arith, h.0)
answered_loose end loose.PongsSkipped other (inr h) = no_true h
answered_loose end loose.PongElsewhere other h = h
answered_loose end loose.OtherCode other ((got, due, code, e, f, g, right), own) = absurd (let wrong : None ≡ Some got = e in cc)
answered_loose end loose.LateEnd other ((due, e, early, last), must, own) = absurd (let wrong : None ≡ Some due = e in cc)
answered_loose end loose.EchoShort other h = h
answered_loose end loose.BrokenEnd other h = absurd (let wrong : true ≡ false = other in cc)
answered_loose end loose.OwnFault other (inl h, blames, sound) = no_true h.1
answered_loose end loose.OwnFault other (inr h, blames, sound) = h.0
answered_loose end loose.OwnClose other (inl h, rest) = no_true h.1
answered_loose end loose.OwnClose other (inr h, rest) = h.0
answered_loose end loose.OwnEnd other h = absurd (let wrong : true ≡ false = other in cc)
answered_loose end loose.LateFault other h = no_true h.0
answered_loose end loose.Tolerated other h = no_true h.0
answered_loose end loose.NoClose other (none, inl h, why) = no_true h
answered_loose end loose.NoClose other (none, inr h, why) = no_true h.0
answered_loose end loose.BehindClose other h = no_true h.0
answered_loose end loose.TooBig other h = no_true h

nothing_loose : (why : LooseWhy) → IsLooseByProtocol Server (answered Tester) answered_marks why → ⊥
nothing_loose loose.PongsSkipped h = answered_loose Tester loose.PongsSkipped refl h
nothing_loose loose.PongElsewhere h = answered_loose Tester loose.PongElsewhere refl h
nothing_loose loose.OtherCode h = answered_loose Tester loose.OtherCode refl h
nothing_loose loose.LateEnd h = answered_loose Tester loose.LateEnd refl h
nothing_loose loose.EchoShort h = answered_loose Tester loose.EchoShort refl h
nothing_loose loose.BrokenEnd h = absurd (let wrong : Tester ≡ Broken = h in cc)
nothing_loose loose.OwnFault h = answered_loose Tester loose.OwnFault refl h
nothing_loose loose.OwnClose h = answered_loose Tester loose.OwnClose refl h
nothing_loose loose.OwnEnd h = absurd (let wrong : Tester ≡ Peer = h.2 in cc)
nothing_loose loose.LateFault h = answered_loose Tester loose.LateFault refl h
nothing_loose loose.Tolerated h = answered_loose Tester loose.Tolerated refl h
nothing_loose loose.NoClose h = answered_loose Tester loose.NoClose refl h
nothing_loose loose.BehindClose h = answered_loose Tester loose.BehindClose refl h
nothing_loose loose.TooBig h = answered_loose Tester loose.TooBig refl h

pub own_end_first : (other : LooseWhy) → IsLooseByProtocol Server (answered Peer) answered_marks other → 9 ≤ loose_number other
own_end_first loose.PongsSkipped h = absurd (answered_loose Peer loose.PongsSkipped refl h)
own_end_first loose.PongElsewhere h = absurd (answered_loose Peer loose.PongElsewhere refl h)
own_end_first loose.OtherCode h = absurd (answered_loose Peer loose.OtherCode refl h)
own_end_first loose.LateEnd h = absurd (answered_loose Peer loose.LateEnd refl h)
own_end_first loose.EchoShort h = absurd (answered_loose Peer loose.EchoShort refl h)
own_end_first loose.BrokenEnd h = absurd (let wrong : Peer ≡ Broken = h in cc)
own_end_first loose.OwnFault h = absurd (answered_loose Peer loose.OwnFault refl h)
own_end_first loose.OwnClose h = absurd (answered_loose Peer loose.OwnClose refl h)
own_end_first loose.OwnEnd h = lit≤ tt
own_end_first loose.LateFault h = lit≤ tt
own_end_first loose.Tolerated h = lit≤ tt
own_end_first loose.NoClose h = lit≤ tt
own_end_first loose.BehindClose h = lit≤ tt
own_end_first loose.TooBig h = lit≤ tt

-- ---- a close of its own

abbrev pub closing : Evidence
closing = evidence_of ((text ∷ []) ∷ []) ((text_back ∷ policy_back ∷ []) ∷ []) (in_one_turn text_sent (text_got ++ policy_got) Peer)

abbrev pub closing_marks : Marks
closing_marks = marks_by ((text ∷ []) ∷ []) ((text_back ∷ policy_back ∷ []) ∷ [])

pub closing_fails : (why : FailWhy) → FailsProtocol Server closing closing_marks why → ⊥
closing_fails fail.NotFrames (inl h) = no_true h.0
closing_fails fail.NotFrames (inr (inl h)) = no_true h.1
closing_fails fail.NotFrames (inr (inr h)) = no_true h.3
closing_fails fail.Early h = h
closing_fails fail.Messages h = h
closing_fails fail.Pongs h = omega (arith, h.0.0)
closing_fails fail.Close h = no_true h.0.0
closing_fails fail.End (inl h, at, big, free, its) = no_true h
closing_fails fail.End (inr h, at, big, free, its) = no_true h.0

-- the code of a close, if there is one
abbrev code_in : Ending → ℕ
code_in (Closed None) = 0
code_in (Closed (Some code)) = code
code_in _ = 0

abbrev code_of : Option (InTurn Ending) → ℕ
code_of None = 0
code_of (Some end) = code_in end.what

not_1008 : (code : ℕ) → 1008 ≡ code → (code ≡ 1002) ⊎ (code ≡ 1007) → ⊥
not_1008 code e (inl f) = omega arith
not_1008 code e (inr f) = omega arith

blames_none : HasOwnFault closing → ⊥
blames_none (own, (got, code, is, what, wrong), sound) =
    let same : 1008 ≡ code = ap (λ (o : Option (InTurn Ending)). code_of o) is ∙ ap (λ (e : Ending). code_in e) what in
    not_1008 code same wrong

pub own_close_first : (other : LooseWhy) → IsLooseByProtocol Server closing closing_marks other → 8 ≤ loose_number other
own_close_first loose.PongsSkipped (inl h) = absurd (omega (arith, h.0))
own_close_first loose.PongsSkipped (inr h) = absurd (no_true h)
own_close_first loose.PongElsewhere h = absurd h
own_close_first loose.OtherCode ((got, due, code, e, f, g, right), own) = absurd (let wrong : None ≡ Some due = f in cc)
own_close_first loose.LateEnd ((due, e, early, last), must, own) = absurd (let wrong : None ≡ Some due = e in cc)
own_close_first loose.EchoShort h = absurd h
own_close_first loose.BrokenEnd h = absurd (let wrong : Peer ≡ Broken = h in cc)
own_close_first loose.OwnFault h = absurd (blames_none h)
own_close_first loose.OwnClose h = lit≤ tt
own_close_first loose.OwnEnd h = lit≤ tt
own_close_first loose.LateFault h = lit≤ tt
own_close_first loose.Tolerated h = lit≤ tt
own_close_first loose.NoClose h = lit≤ tt
own_close_first loose.BehindClose h = lit≤ tt
own_close_first loose.TooBig h = lit≤ tt

-- ---- a ping before a close

abbrev silent : Evidence
silent = evidence_of ((ping ∷ []) ∷ (close ∷ []) ∷ []) ([] ∷ (close_back ∷ []) ∷ []) (in_two_turns ping_sent [] close_sent close_got Peer)

abbrev silent_marks : Marks
silent_marks = marks_by ((ping ∷ []) ∷ (close ∷ []) ∷ []) ([] ∷ (close_back ∷ []) ∷ [])

unanswered : IsLastAnswered silent → ⊥
unanswered last = elim last.answered [
  | inl h ↦ no_true h
  | inr h ↦ no_true h
]

not_own : HasOwnClose silent → ⊥
not_own (inl h) = absurd (let wrong : Some (record { turn = 1; what = Closed (Some 1000) }) ≡ None = h.0 in cc)
not_own (inr h) = omega (arith, h.0.1)

pongs_first : (other : FailWhy) → FailsProtocol Server silent silent_marks other → 4 ≤ fail_number other
pongs_first fail.NotFrames (inl h) = absurd (no_true h.0)
pongs_first fail.NotFrames (inr (inl h)) = absurd (no_true h.1)
pongs_first fail.NotFrames (inr (inr h)) = absurd (no_true h.3)
pongs_first fail.Early h = absurd h
pongs_first fail.Messages h = absurd h
pongs_first fail.Pongs h = lit≤ tt
pongs_first fail.Close h = lit≤ tt
pongs_first fail.End h = lit≤ tt

-- ---- a close without an answer

abbrev pub closed : Evidence
closed = evidence_of ((close ∷ []) ∷ []) ([] ∷ []) (in_one_turn close_sent [] Peer)

abbrev pub closed_marks : Marks
closed_marks = marks_by ((close ∷ []) ∷ []) ([] ∷ [])

pub close_first : (other : FailWhy) → FailsProtocol Server closed closed_marks other → 5 ≤ fail_number other
close_first fail.NotFrames (inl h) = absurd (no_true h.0)
close_first fail.NotFrames (inr (inl h)) = absurd (no_true h.0)
close_first fail.NotFrames (inr (inr h)) = absurd (no_true h.3)
close_first fail.Early h = absurd h
close_first fail.Messages h = absurd h
close_first fail.Pongs h = absurd (omega (arith, h.0.0))
close_first fail.Close h = lit≤ tt
close_first fail.End h = lit≤ tt

-- ---- the five transcripts

text_whole : AreWhole Server ((text ∷ []) ∷ [])
text_whole = record { layout = (text_fits, tt); keys = (refl, tt); valid = text_valid }

text_back_whole : AreWhole Client ((text_back ∷ []) ∷ [])
text_back_whole = record { layout = (text_back_fits, tt); keys = (refl, tt); valid = text_back_valid }

policy_whole : AreWhole Client ((text_back ∷ policy_back ∷ []) ∷ [])
policy_whole = record { layout = (text_back_fits, (policy_back_fits, tt)); keys = (refl, (refl, tt)); valid = text_and_policy_valid }

ping_whole : AreWhole Server ((ping ∷ []) ∷ (close ∷ []) ∷ [])
ping_whole = record { layout = (ping_fits, (close_fits, tt)); keys = (refl, (refl, tt)); valid = ping_and_close_valid }

close_back_whole : AreWhole Client ([] ∷ (close_back ∷ []) ∷ [])
close_back_whole = record { layout = (close_back_fits, tt); keys = (refl, tt); valid = close_valid }

close_whole : AreWhole Server ((close ∷ []) ∷ [])
close_whole = record { layout = (close_fits, tt); keys = (refl, tt); valid = close_valid }

nothing_whole : AreWhole Client ([] ∷ [])
nothing_whole = record { layout = tt; keys = tt; valid = none_valid }

module _ (laws : FrameLaws) (events : EventLaws) where
  pub own_message : IsProtocolVerdictOf Server (in_one_turn text_sent text_got Tester) Pass
  own_message = record {
    counted = answered Tester;
    marks = answered_marks;
    is_evidence = is_marked laws events Server (in_one_turn text_sent text_got Tester) ((text ∷ []) ∷ []) ((text_back ∷ []) ∷ []) text_whole text_back_whole refl refl refl (λ d. d);
    is_verdict = (answered_fails Tester, nothing_loose);
  }

  pub ended_evidence : IsMarkedEvidenceOf Server (in_one_turn text_sent text_got Peer) (answered Peer) answered_marks
  ended_evidence = is_marked laws events Server (in_one_turn text_sent text_got Peer) ((text ∷ []) ∷ []) ((text_back ∷ []) ∷ []) text_whole text_back_whole refl refl
      (none_doomed laws events Server (in_one_turn text_sent text_got Peer) ((text ∷ []) ∷ []) ((text_back ∷ []) ∷ []) text_whole text_back_whole refl refl) (λ d. d)

  pub own_end : IsProtocolVerdictOf Server (in_one_turn text_sent text_got Peer) (Loose loose.OwnEnd)
  own_end = record {
    counted = answered Peer;
    marks = answered_marks;
    is_evidence = ended_evidence;
    is_verdict = (answered_fails Peer, record { wrong = (refl, refl, refl); first = own_end_first });
  }

  pub closing_evidence : IsMarkedEvidenceOf Server (in_one_turn text_sent (text_got ++ policy_got) Peer) closing closing_marks
  closing_evidence = is_marked laws events Server (in_one_turn text_sent (text_got ++ policy_got) Peer) ((text ∷ []) ∷ []) ((text_back ∷ policy_back ∷ []) ∷ []) text_whole policy_whole refl refl
      (none_doomed laws events Server (in_one_turn text_sent (text_got ++ policy_got) Peer) ((text ∷ []) ∷ []) ((text_back ∷ policy_back ∷ []) ∷ []) text_whole policy_whole refl refl) (λ d. d)

  pub own_close : IsProtocolVerdictOf Server (in_one_turn text_sent (text_got ++ policy_got) Peer) (Loose loose.OwnClose)
  own_close = record {
    counted = closing;
    marks = closing_marks;
    is_evidence = closing_evidence;
    is_verdict = (closing_fails, record { wrong = (inl (refl, refl), blames_none); first = own_close_first });
  }

  pub no_pong : IsProtocolVerdictOf Server (in_two_turns ping_sent [] close_sent close_got Peer) (Fail fail.Pongs)
  no_pong = record {
    counted = silent;
    marks = silent_marks;
    is_evidence = is_marked laws events Server (in_two_turns ping_sent [] close_sent close_got Peer) ((ping ∷ []) ∷ (close ∷ []) ∷ []) ([] ∷ (close_back ∷ []) ∷ []) ping_whole close_back_whole refl refl refl
        (λ d. absurd (let wrong : true ≡ false = d.1 in cc));
    is_verdict = record {
      wrong = (
        (lit≤ tt, unanswered),
        refl,
        refl,
        inr ((record { turn = 1; what = Closed (Some 1000) }, record { turn = 1; what = Closed (Some 1000) }, Some 1000, refl, refl, refl, refl), not_own),
      );
      first = pongs_first;
    };
  }

  pub closed_evidence : IsMarkedEvidenceOf Server (in_one_turn close_sent [] Peer) closed closed_marks
  closed_evidence = is_marked laws events Server (in_one_turn close_sent [] Peer) ((close ∷ []) ∷ []) ([] ∷ []) close_whole nothing_whole refl refl refl (λ d. d)

  pub no_close : IsProtocolVerdictOf Server (in_one_turn close_sent [] Peer) (Fail fail.Close)
  no_close = record {
    counted = closed;
    marks = closed_marks;
    is_evidence = closed_evidence;
    is_verdict = record { wrong = ((refl, refl), refl, refl, inr (refl, refl)); first = close_first };
  }
