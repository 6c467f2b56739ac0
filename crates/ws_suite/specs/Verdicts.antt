-- Verdicts, RFC 6455 sections 5 to 8: which rules the tested end broke, and where it answered otherwise than an echo
-- that is fed turn by turn. Each of the six Fails and the six Looses is a definition of its own, over the replies that
-- are due and those that were got. Fail 6 and Loose 4 alone ask which end is tested, since it is the server that closes
-- the connection (section 7.1.1).
use Rattle.std.specs.Prelude.{◌≡◌, ◌≢◌, ℕ, ◌+◌, ◌<◌, ◌⊎◌, nat_lt, Bool, true, false, MatchBool, length, Option, Some}
use Rattle.std.specs.Prelude.{None}
use Rattle.std.specs.List.{list_any, zip}
use Rattle.ws_wire.specs.declared.role.Role.{Role}
use Rattle.ws_wire.specs.declared.role.Role.TheVariants.{Server}
use Rattle.ws_scripts.specs.declared.transcript.Ended.TheVariants.{Tester, Broken}
use Rattle.ws_scripts.specs.declared.transcript.Transcript.{Transcript}
use Rattle.ws_suite.specs.declared.verdict.Verdict.{Verdict}
use Rattle.ws_suite.specs.declared.verdict.Verdict.TheVariants.{Pass, Loose, Fail}
use Rattle.ws_suite.specs.declared.verdict.FailWhy.{FailWhy}
use Rattle.ws_suite.specs.declared.verdict.FailWhy.TheVariants as fail
use Rattle.ws_suite.specs.declared.verdict.LooseWhy.{LooseWhy}
use Rattle.ws_suite.specs.declared.verdict.LooseWhy.TheVariants as loose
use Rattle.ws_suite.specs.declared.evidence.InTurn.{InTurn}
use Rattle.ws_suite.specs.declared.evidence.Reply.{Reply}
use Rattle.ws_suite.specs.declared.evidence.Ending.{Ending}
use Rattle.ws_suite.specs.declared.evidence.Ending.TheVariants.{Closed}
use Rattle.ws_suite.specs.declared.evidence.Evidence.{Evidence}
use Rattle.ws_suite.specs.Evidence.{IsEvidenceOf}
use Rattle.ws_suite.specs.Doom.{HasDoomCounted}
use Rattle.ws_suite.specs.Matching.{HasLastPong, IsBeginningOf, IsShortOfMessages, IsShortOfPongs, IsWithSomeLeftOut}
use Rattle.ws_suite.specs.Matching.{IsCodeFor, bare, due_messages, due_pongs, ends_with_close, ends_with_fault}
use Rattle.ws_suite.specs.Matching.{got_messages, is_close_ending, matches}

-- ---- Fails

-- Fail 1 (sections 5.1 to 5.5 and 8.1): what was got holds a fault; or bytes follow the close that was got; or the
-- bytes end inside a frame and the end isn't Broken.
abbrev pub IsNotFrames : Evidence → Type 0
IsNotFrames x = (ends_with_fault x.got.ending ≡ true)
    ⊎ (((ends_with_close x.got.ending ≡ true) × (x.got.has_rest ≡ true))
    ⊎ ((x.got.has_rest ≡ true) × (x.ended ≢ Broken)))

-- what was got stands in an earlier turn than what is due
abbrev pub is_before : InTurn Reply × InTurn Reply → Bool
is_before pair = nat_lt pair.0.turn pair.1.turn

-- the pong that was got has a match, and stands in an earlier turn than its ping
abbrev pub is_before_match : InTurn Reply × Option (InTurn Reply) → Bool
is_before_match (got, None) = false
is_before_match (got, Some due) = nat_lt got.turn due.turn

-- a close was got in an earlier turn than the close or fault that was sent
abbrev pub IsEarlyClose : Option (InTurn Ending) → Option (InTurn Ending) → Type 0
IsEarlyClose None due = ⊥
IsEarlyClose (Some got) None = ⊥
IsEarlyClose (Some got) (Some due) = (is_close_ending got.what ≡ true) × (got.turn < due.turn)

-- Fail 2 (sections 5.5.1 and 5.5.3): a message that was got stands in an earlier turn than the message due in its
-- place; or a matched pong in an earlier turn than its ping; or a close in an earlier turn than the close or fault that
-- was sent, and what was sent by then wasn't doomed. Nothing is asked of a message in whose place none is due.
abbrev pub IsEarly : Evidence → Type 0
IsEarly x = (list_any is_before (zip (got_messages x) (due_messages x)) ≡ true)
    ⊎ ((list_any is_before_match (matches x) ≡ true)
    ⊎ (IsEarlyClose x.got.ending x.due.ending × (x.answers_doom ≡ false)))

-- Fail 3 (sections 5.4 and 5.6): where what was sent holds a fault, the messages that were got aren't a beginning of
-- those due; where it holds none, they aren't those due.
abbrev pub HasOtherMessages : Evidence → Type 0
HasOtherMessages x = MatchBool (ends_with_fault x.due.ending)
    (¬ (IsBeginningOf (bare (got_messages x)) (bare (due_messages x))))
    (bare (got_messages x) ≢ bare (due_messages x))

abbrev pub is_unmatched : InTurn Reply × Option (InTurn Reply) → Bool
is_unmatched (got, None) = true
is_unmatched (got, Some due) = false

-- Fail 4 (sections 5.5.2 and 5.5.3): a pong that was got has no match; or what was sent holds no fault, pongs are due
-- and the last of them isn't there.
abbrev pub HasOtherPongs : Evidence → Type 0
HasOtherPongs x = (list_any is_unmatched (matches x) ≡ true)
    ⊎ ((ends_with_fault x.due.ending ≡ false) × (0 < length (due_pongs x)) × ¬ (HasLastPong x))

-- Fail 5 (sections 5.5.1 and 7.1.2): a close is due and none was got; or neither close nor fault was sent and a close
-- was got.
abbrev pub HasOtherClose : Evidence → Type 0
HasOtherClose x = ((ends_with_close x.due.ending ≡ true) × (ends_with_close x.got.ending ≡ false))
    ⊎ ((x.due.ending ≡ None) × (ends_with_close x.got.ending ≡ true))

-- Fail 6 (sections 7.1.1 and 7.1.7): a close or a fault was sent and the end is Tester, and what is tested is a server,
-- or a client of which no close was got; or neither was sent and the end isn't Tester.
abbrev pub HasOtherEnd : Role → Evidence → Type 0
HasOtherEnd tested x =
    ((x.due.ending ≢ None) × (x.ended ≡ Tester) × ((tested ≡ Server) ⊎ (ends_with_close x.got.ending ≡ false)))
    ⊎ ((x.due.ending ≡ None) × (x.ended ≢ Tester))

-- this Fail applies
abbrev pub Fails : Role → Evidence → FailWhy → Type 0
Fails tested x fail.NotFrames = IsNotFrames x
Fails tested x fail.Early = IsEarly x
Fails tested x fail.Messages = HasOtherMessages x
Fails tested x fail.Pongs = HasOtherPongs x
Fails tested x fail.Close = HasOtherClose x
Fails tested x fail.End = HasOtherEnd tested x

-- ---- Looses

-- Loose 1 (section 5.5.3 allows it): fewer pongs were got than are due, and the last due pong is there.
abbrev pub SkipsPongs : Evidence → Type 0
SkipsPongs x = IsShortOfPongs x × HasLastPong x

-- Loose 2 (section 5.5.2): the messages and pongs that were got, in their common order, aren't those due with some left
-- out.
abbrev pub HasPongElsewhere : Evidence → Type 0
HasPongElsewhere x = ¬ (IsWithSomeLeftOut (bare x.got.replies) (bare x.due.replies))

-- Loose 3 (sections 5.5.1 and 7.4.1): a close was got, and its code, or want of one, is another than is due for the
-- close that was sent or right for the fault. Where the fault has not come no code is asked.
abbrev pub HasOtherCode : Evidence → Type 0
HasOtherCode x = (got : InTurn Ending) × (due : InTurn Ending) × (code : Option ℕ)
    × (x.got.ending ≡ Some got) × (x.due.ending ≡ Some due) × (got.what ≡ Closed code) × ¬ (IsCodeFor due.what code)

-- a close was got in this turn
abbrev pub IsCloseInTurn : Option (InTurn Ending) → ℕ → Type 0
IsCloseInTurn None turn = ⊥
IsCloseInTurn (Some got) turn = (is_close_ending got.what ≡ true) × (got.turn ≡ turn)

-- Loose 4 (sections 7.1.1 and 7.1.7): the close or the fault that was sent stands in a turn before the last, and what
-- is tested is a server, or a client of which no close was got in that turn.
abbrev pub EndsLate : Role → Evidence → Type 0
EndsLate tested x = (due : InTurn Ending) × (x.due.ending ≡ Some due) × (due.turn + 1 < x.turns)
    × ((tested ≡ Server) ⊎ ¬ (IsCloseInTurn x.got.ending due.turn))

-- Loose 5 (section 7.1.7): what was sent holds a fault, and fewer messages were got than are due, or fewer pongs and
-- the last due pong isn't there. Without a fault each of the two is a Fail.
abbrev pub EchoesShort : Evidence → Type 0
EchoesShort x = (ends_with_fault x.due.ending ≡ true) × (IsShortOfMessages x ⊎ (IsShortOfPongs x × ¬ (HasLastPong x)))

-- Loose 6 (section 7.1.1): the end is Broken.
abbrev pub IsBroken : Evidence → Type 0
IsBroken x = x.ended ≡ Broken

-- this Loose applies
abbrev pub IsLoose : Role → Evidence → LooseWhy → Type 0
IsLoose tested x loose.PongsSkipped = SkipsPongs x
IsLoose tested x loose.PongElsewhere = HasPongElsewhere x
IsLoose tested x loose.OtherCode = HasOtherCode x
IsLoose tested x loose.LateEnd = EndsLate tested x
IsLoose tested x loose.EchoShort = EchoesShort x
IsLoose tested x loose.BrokenEnd = IsBroken x
-- the others are told by the protocol alone
IsLoose tested x loose.OwnFault = ⊥
IsLoose tested x loose.OwnClose = ⊥
IsLoose tested x loose.OwnEnd = ⊥
IsLoose tested x loose.LateFault = ⊥
IsLoose tested x loose.Tolerated = ⊥
IsLoose tested x loose.NoClose = ⊥
IsLoose tested x loose.BehindClose = ⊥
IsLoose tested x loose.TooBig = ⊥

-- ---- the verdict

-- their order: the lowest that applies is told
abbrev pub fail_number : FailWhy → ℕ
fail_number fail.NotFrames = 1
fail_number fail.Early = 2
fail_number fail.Messages = 3
fail_number fail.Pongs = 4
fail_number fail.Close = 5
fail_number fail.End = 6

abbrev pub loose_number : LooseWhy → ℕ
loose_number loose.PongsSkipped = 1
loose_number loose.PongElsewhere = 2
loose_number loose.OtherCode = 3
loose_number loose.LateEnd = 4
loose_number loose.EchoShort = 5
loose_number loose.BrokenEnd = 6
loose_number loose.OwnFault = 7
loose_number loose.OwnClose = 8
loose_number loose.OwnEnd = 9
loose_number loose.LateFault = 10
loose_number loose.Tolerated = 11
loose_number loose.NoClose = 12
loose_number loose.BehindClose = 13
loose_number loose.TooBig = 14

-- this Fail applies, and none with a lower number
abbrev pub IsLowestFail : Role → Evidence → FailWhy → Type 0
IsLowestFail tested x why = Fails tested x why
    × ((lower : FailWhy) → fail_number lower < fail_number why → ¬ (Fails tested x lower))

-- this Loose applies, and none with a lower number
abbrev pub IsLowestLoose : Role → Evidence → LooseWhy → Type 0
IsLowestLoose tested x why = IsLoose tested x why
    × ((lower : LooseWhy) → loose_number lower < loose_number why → ¬ (IsLoose tested x lower))

-- no Fail applies, and no Loose
abbrev pub FailsNowhere : Role → Evidence → Type 0
FailsNowhere tested x = (why : FailWhy) → ¬ (Fails tested x why)

abbrev pub IsNowhereLoose : Role → Evidence → Type 0
IsNowhereLoose tested x = (why : LooseWhy) → ¬ (IsLoose tested x why)

-- the lowest Fail that applies; else the lowest Loose; else Pass
abbrev pub IsVerdictOn : Role → Evidence → Verdict → Type 0
IsVerdictOn tested x (Fail why) = IsLowestFail tested x why
IsVerdictOn tested x (Loose why) = FailsNowhere tested x × IsLowestLoose tested x why
IsVerdictOn tested x Pass = FailsNowhere tested x × IsNowhereLoose tested x

-- the verdict on the evidence of a transcript, with what was doomed counted, where the tested end has this role
pub record IsVerdictOf (tested : Role) (transcript : Transcript) (verdict : Verdict) : Type 0 where
  pub evidence : Evidence
  pub is_evidence : IsEvidenceOf tested transcript evidence
  pub counted : Evidence
  pub is_counted : HasDoomCounted tested transcript evidence counted
  pub is_verdict : IsVerdictOn tested counted verdict
