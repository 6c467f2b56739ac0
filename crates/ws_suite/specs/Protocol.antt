-- Verdicts by RFC 6455 alone, on an end that needn't echo: it may send what messages, pings and pongs it likes, and
-- close when it likes. The four Fails are what the standard orders of any end, and each has its section; the evidence,
-- the pongs that pings ask for, and what was doomed are those of the verdict on an echo.
use Rattle.std.specs.Prelude.{◌≡◌, ℕ, ◌-◌, ◌<◌, ◌⊎◌, ◌&&◌, nat_lt, nat_le, not, Bool, true, false, List}
use Rattle.std.specs.Prelude.{length}
use Rattle.std.specs.Prelude.{filter, take, if◌then◌else◌, Option, Some, None}
use Rattle.std.specs.List.{last_or, list_any}
use Rattle.ws_wire.specs.declared.role.Role.{Role}
use Rattle.ws_wire.specs.declared.role.Role.TheVariants.{Client, Server}
use Rattle.ws_session.specs.declared.reason.Reason.{Reason}
use Rattle.ws_session.specs.declared.reason.Reason.TheVariants.{ReservedBits, Opcode, MaskWrong, NotShortest, BadLength}
use Rattle.ws_session.specs.declared.reason.Reason.TheVariants.{ControlCut, ControlLong, NothingToContinue, MessageOpen}
use Rattle.ws_session.specs.declared.reason.Reason.TheVariants.{TooBig, NotText, TextCut, CloseOneByte, CloseCode}
use Rattle.ws_session.specs.declared.reason.Reason.TheVariants.{CloseReason, FrameBig}
use Rattle.ws_session.specs.Faults.{IsLowest}
use Rattle.ws_scripts.specs.declared.transcript.Ended.TheVariants.{Tester, Peer}
use Rattle.ws_scripts.specs.declared.transcript.Transcript.{Transcript}
use Rattle.ws_scripts.specs.declared.expectation.Expectation.{Expectation}
use Rattle.ws_scripts.specs.declared.expectation.Expectation.TheVariants.{Echo, Protocol}
use Rattle.ws_suite.specs.declared.verdict.Verdict.{Verdict}
use Rattle.ws_suite.specs.declared.verdict.Verdict.TheVariants.{Pass, Loose, Fail}
use Rattle.ws_suite.specs.declared.verdict.FailWhy.{FailWhy}
use Rattle.ws_suite.specs.declared.verdict.FailWhy.TheVariants as fail
use Rattle.ws_suite.specs.declared.verdict.LooseWhy.{LooseWhy}
use Rattle.ws_suite.specs.declared.verdict.LooseWhy.TheVariants as loose
use Rattle.ws_suite.specs.declared.evidence.InTurn.{InTurn}
use Rattle.ws_suite.specs.declared.evidence.Reply.{Reply}
use Rattle.ws_suite.specs.declared.evidence.Ending.{Ending}
use Rattle.ws_suite.specs.declared.evidence.Ending.TheVariants.{Closed, Failed, Doomed}
use Rattle.ws_suite.specs.declared.evidence.Evidence.{Evidence}
use Rattle.ws_suite.specs.declared.evidence.marks.Marks.{Marks}
use Rattle.ws_suite.specs.Evidence.{IsEvidenceOf}
use Rattle.ws_suite.specs.Doom.{HasDoomCounted}
use Rattle.ws_suite.specs.Marks.{AreMarksOf, HasPongsCounted, HasUndefinedCodeCounted}
use Rattle.ws_suite.specs.Matching.{due_pongs, ends_with_close, ends_with_fault, got_pongs, has_payload_of}
use Rattle.ws_suite.specs.Matching.{is_close_ending}
use Rattle.ws_suite.specs.Verdicts.{EndsLate, HasOtherCode, IsBroken, IsEarlyClose, IsVerdictOf, fail_number}
use Rattle.ws_suite.specs.Verdicts.{loose_number}

-- ---- who closed first

-- the own close: one that came in an earlier turn than the close or the fault that was sent, and when what was sent by
-- then wasn't doomed; or any close where neither was sent
abbrev pub HasOwnClose : Evidence → Type 0
HasOwnClose x = ((x.due.ending ≡ None) × (ends_with_close x.got.ending ≡ true))
    ⊎ (IsEarlyClose x.got.ending x.due.ending × (x.answers_doom ≡ false))

-- ---- pongs that are owed

-- it is of an earlier turn than this close or fault, if there is one
abbrev pub is_before_end : Option (InTurn Ending) → InTurn Reply → Bool
is_before_end None reply = true
is_before_end (Some end) reply = nat_lt reply.turn end.turn

-- the close, if it is one
abbrev pub close_of : Option (InTurn Ending) → Option (InTurn Ending)
close_of None = None
close_of (Some x) = if is_close_ending x.what then Some x else None

-- a pong is owed for a ping in an earlier turn than the close or the fault that was sent, and than the close that was
-- got (section 5.5.2: unless it already received a close frame)
abbrev pub is_owed : Evidence → InTurn Reply → Bool
is_owed x pong = is_before_end x.due.ending pong && is_before_end (close_of x.got.ending) pong

abbrev pub owed_pongs : Evidence → List (InTurn Reply)
owed_pongs x = filter (is_owed x) (due_pongs x)

-- those for the other pings, which all are later
abbrev pub later_pongs : Evidence → List (InTurn Reply)
later_pongs x = filter (λ pong. not (is_owed x pong)) (due_pongs x)

-- a ping is answered: some pong with its payload was got in no earlier turn, be it behind the close. Nothing is asked
-- of other pongs
abbrev pub is_answered : Evidence → InTurn Reply → Bool
is_answered x due = list_any (λ got. has_payload_of got due && nat_le due.turn got.turn) (got_pongs x)

abbrev pub OwesPongs : Evidence → Type 0
OwesPongs x = 0 < length (owed_pongs x)

-- the last ping for which a pong is owed is answered, or a later one is (section 5.5.3: only the latest may be)
pub record IsLastAnswered (x : Evidence) : Type 0 where
  pub last : InTurn Reply
  pub is_last : last_or None (owed_pongs x) ≡ Some last
  pub answered : (is_answered x last ≡ true) ⊎ (list_any (is_answered x) (later_pongs x) ≡ true)

-- all pongs that are owed but the last
abbrev pub earlier_pongs : Evidence → List (InTurn Reply)
earlier_pongs x = take (length (owed_pongs x) - 1) (owed_pongs x)

-- ---- what the standard doesn't bound, and what it lets pass

-- what was got ends with a message above the limit: the standard bounds none (section 10.4)
abbrev pub is_size : Ending → Bool
is_size (Failed TooBig) = true
is_size (Failed FrameBig) = true
is_size _ = false

abbrev pub is_too_big : Option (InTurn Ending) → Bool
is_too_big None = false
is_too_big (Some x) = is_size x.what

-- The standard doesn't order the end that takes this fault to fail the connection: what it says of forms, lengths,
-- fragments and control frames (sections 5.2, 5.4 and 5.5) binds the sender. At reserved bits, opcodes, masks and text
-- it does (sections 5.1, 5.2 and 8.1); and behind a close frame, whatever is its payload, the connection ends in any
-- case (section 5.5.1)
abbrev pub is_tolerable_reason : Reason → Bool
is_tolerable_reason ReservedBits = false
is_tolerable_reason Opcode = false
is_tolerable_reason MaskWrong = false
is_tolerable_reason NotShortest = true
is_tolerable_reason BadLength = true
is_tolerable_reason ControlCut = true
is_tolerable_reason ControlLong = true
is_tolerable_reason NothingToContinue = true
is_tolerable_reason MessageOpen = true
is_tolerable_reason TooBig = true
is_tolerable_reason NotText = false
is_tolerable_reason TextCut = false
is_tolerable_reason CloseOneByte = false
is_tolerable_reason CloseCode = false
is_tolerable_reason CloseReason = false
is_tolerable_reason FrameBig = true

abbrev pub is_tolerable_ending : Ending → Bool
is_tolerable_ending (Closed code) = false
is_tolerable_ending (Failed reason) = is_tolerable_reason reason
is_tolerable_ending Doomed = false

abbrev pub is_tolerable : Option (InTurn Ending) → Bool
is_tolerable None = false
is_tolerable (Some x) = is_tolerable_ending x.what

-- ---- Fails

-- Fail 1 (sections 5.1 to 5.5, 7.4 and 8.1): what was got holds a fault that isn't too big; or behind its close are
-- other bytes than right control frames, which section 5.5.1 asks of both ends; or the tested end ended the connection
-- inside a frame, where it had closed nothing, and no fault was sent. That last one breaks no MUST, but it sends no
-- frame: it is ours.
abbrev pub BreaksFrames : Evidence → Marks → Type 0
BreaksFrames x marks =
    ((ends_with_fault x.got.ending ≡ true) × (is_too_big x.got.ending ≡ false))
    ⊎ (((ends_with_close x.got.ending ≡ true) × (x.got.has_rest ≡ true) × (marks.has_controls ≡ false))
    ⊎ ((x.ended ≡ Peer) × (ends_with_fault x.due.ending ≡ false) × (x.got.ending ≡ None) × (x.got.has_rest ≡ true)))

-- a close was got, with the code, or the want of one, of the close that was sent
abbrev pub HasSameCode : Evidence → Type 0
HasSameCode x = (got due : InTurn Ending) × (code : Option ℕ) × (x.got.ending ≡ Some got) × (x.due.ending ≡ Some due)
    × (got.what ≡ Closed code) × (due.what ≡ Closed code)

-- Fail 4 (sections 5.5.2 and 5.5.3): pongs are owed, the last one's ping isn't answered, no fault was sent, and nothing
-- is too big; and either the tester ended the connection, no close was got, and what was got doesn't end inside a data
-- frame; or a close was got that isn't the own one and has the code of the one that was sent.
abbrev pub LeavesPing : Evidence → Marks → Type 0
LeavesPing x marks = (OwesPongs x × ¬ (IsLastAnswered x))
    × (ends_with_fault x.due.ending ≡ false) × (is_too_big x.got.ending ≡ false)
    × (((x.ended ≡ Tester) × (ends_with_close x.got.ending ≡ false) × (marks.ends_in_data ≡ false))
    ⊎ (HasSameCode x × ¬ (HasOwnClose x)))

-- a close was sent, and none was got
abbrev pub LacksClose : Evidence → Type 0
LacksClose x = (ends_with_close x.due.ending ≡ true) × (ends_with_close x.got.ending ≡ false)

-- Fail 5 (section 5.5.1): a close was sent and none was got, nothing is too big and no message open, and the tester
-- ended the connection, or the tested end did and was sent no message before, nor a part of one. An end that drops the
-- connection between its last answer and the tester's close can't be told from one that doesn't answer it: that is
-- ours.
abbrev pub LeavesClose : Evidence → Marks → Type 0
LeavesClose x marks = LacksClose x × (is_too_big x.got.ending ≡ false) × (marks.is_open ≡ false)
    × ((x.ended ≡ Tester) ⊎ ((x.ended ≡ Peer) × (marks.sends_data ≡ false)))

-- a close was sent, or a fault that was seen and for which the standard orders an end to fail
abbrev pub HasToEnd : Evidence → Marks → Type 0
HasToEnd x marks = (ends_with_close x.due.ending ≡ true)
    ⊎ ((ends_with_fault x.due.ending ≡ true) × (marks.is_late ≡ false) × (is_tolerable x.due.ending ≡ false))

-- What was got keeps the tested end from ending by nothing: there is a close; or it doesn't end inside a data frame
-- and, where a close was sent, no message is open. Section 5.5.1 lets the answer to a close wait for the message, and
-- section 7.1.7 lets a failed connection wait for nothing.
abbrev pub IsFreeToEnd : Evidence → Marks → Type 0
IsFreeToEnd x marks = (ends_with_close x.got.ending ≡ true)
    ⊎ ((marks.ends_in_data ≡ false) × (ends_with_close x.due.ending ≡ true → marks.is_open ≡ false))

-- a server ends the connection, but where it closed by itself it waits for the answer; of a client its close is all
-- that is asked (section 7.1.1)
abbrev pub IsItsEnd : Role → Evidence → Type 0
IsItsEnd Server x = (¬ (HasOwnClose x)) ⊎ (ends_with_close x.due.ending ≡ true)
IsItsEnd Client x = ends_with_close x.got.ending ≡ false

-- Fail 6 (sections 5.5.1, 7.1.1 and 7.1.7): the tested end had to end the connection, and the tester did; nothing is
-- too big.
abbrev pub StaysOpen : Role → Evidence → Marks → Type 0
StaysOpen tested x marks = HasToEnd x marks × (x.ended ≡ Tester) × (is_too_big x.got.ending ≡ false)
    × IsFreeToEnd x marks × IsItsEnd tested x

-- this Fail applies; that a message is early or another one is none by the protocol
abbrev pub FailsProtocol : Role → Evidence → Marks → FailWhy → Type 0
FailsProtocol tested x marks fail.NotFrames = BreaksFrames x marks
FailsProtocol tested x marks fail.Early = ⊥
FailsProtocol tested x marks fail.Messages = ⊥
FailsProtocol tested x marks fail.Pongs = LeavesPing x marks
FailsProtocol tested x marks fail.Close = LeavesClose x marks
FailsProtocol tested x marks fail.End = StaysOpen tested x marks

-- ---- Looses

-- Loose 1 (section 5.5.3): a ping for which a pong is owed isn't answered. Where that is Fail 4, the Fail is told.
abbrev pub SkipsOwedPong : Evidence → Type 0
SkipsOwedPong x = (OwesPongs x × ¬ (IsLastAnswered x))
    ⊎ (list_any (λ due. not (is_answered x due)) (earlier_pongs x) ≡ true)

-- a close that was got blames a broken rule (section 7.4.1)
abbrev pub BlamesFault : Evidence → Type 0
BlamesFault x = (got : InTurn Ending) × (code : ℕ) × (x.got.ending ≡ Some got) × (got.what ≡ Closed (Some code))
    × ((code ≡ 1002) ⊎ (code ≡ 1007))

-- Loose 7: there is an own close that blames a broken rule, and no fault was sent.
abbrev pub HasOwnFault : Evidence → Type 0
HasOwnFault x = HasOwnClose x × BlamesFault x × (ends_with_fault x.due.ending ≡ false)

-- Loose 11 (sections 5.2, 5.4 and 5.5): a fault was sent for which the standard doesn't order an end to fail, and the
-- tester ended the connection, with a client before its close.
abbrev pub IsTolerated : Role → Evidence → Type 0
IsTolerated tested x = (is_tolerable x.due.ending ≡ true) × (x.ended ≡ Tester)
    × ((tested ≡ Server) ⊎ (ends_with_close x.got.ending ≡ false))

-- Loose 12 (sections 5.5.1 and 7.1.7): no close was got, and one was sent, or, where the tester ended the connection, a
-- fault that was seen and for which the standard orders an end to fail. Where that is Fail 5 or 6, the Fail is told.
abbrev pub HasNoClose : Evidence → Marks → Type 0
HasNoClose x marks = (ends_with_close x.got.ending ≡ false) × HasToEnd x marks
    × ((ends_with_close x.due.ending ≡ true) ⊎ (x.ended ≡ Tester))

-- this Loose applies. Each is told by its number:
-- 3, as with an echo, without an own close; 4, as with an echo, of a close, or of a fault that was seen and for which
-- the standard orders an end to fail, without an own close; 8, another own close; 9, neither close nor fault was sent,
-- no close was got, and the tested end ended the connection (section 7.1.1); 10, a fault was sent that needn't have
-- been seen, no close was got, and the tester ended it; 13, right control frames are behind the close; 14, something is
-- too big.
abbrev pub IsLooseByProtocol : Role → Evidence → Marks → LooseWhy → Type 0
IsLooseByProtocol tested x marks loose.PongsSkipped = SkipsOwedPong x
IsLooseByProtocol tested x marks loose.PongElsewhere = ⊥
IsLooseByProtocol tested x marks loose.OtherCode = HasOtherCode x × ¬ (HasOwnClose x)
IsLooseByProtocol tested x marks loose.LateEnd = EndsLate tested x × HasToEnd x marks × ¬ (HasOwnClose x)
IsLooseByProtocol tested x marks loose.EchoShort = ⊥
IsLooseByProtocol tested x marks loose.BrokenEnd = IsBroken x
IsLooseByProtocol tested x marks loose.OwnFault = HasOwnFault x
IsLooseByProtocol tested x marks loose.OwnClose = HasOwnClose x × ¬ (HasOwnFault x)
IsLooseByProtocol tested x marks loose.OwnEnd =
    (x.due.ending ≡ None) × (ends_with_close x.got.ending ≡ false) × (x.ended ≡ Peer)
IsLooseByProtocol tested x marks loose.LateFault =
    (marks.is_late ≡ true) × (ends_with_close x.got.ending ≡ false) × (x.ended ≡ Tester)
IsLooseByProtocol tested x marks loose.Tolerated = IsTolerated tested x
IsLooseByProtocol tested x marks loose.NoClose = HasNoClose x marks
IsLooseByProtocol tested x marks loose.BehindClose = (ends_with_close x.got.ending ≡ true) × (x.got.has_rest ≡ true)
    × (marks.has_controls ≡ true)
IsLooseByProtocol tested x marks loose.TooBig = is_too_big x.got.ending ≡ true

-- ---- the verdict

-- the lowest Fail that applies; else the lowest Loose; else Pass
abbrev pub IsProtocolVerdictOn : Role → Evidence → Marks → Verdict → Type 0
IsProtocolVerdictOn tested x marks (Fail why) = IsLowest FailWhy fail_number (FailsProtocol tested x marks) why
IsProtocolVerdictOn tested x marks (Loose why) = ((other : FailWhy) → ¬ (FailsProtocol tested x marks other))
    × IsLowest LooseWhy loose_number (IsLooseByProtocol tested x marks) why
IsProtocolVerdictOn tested x marks Pass = ((other : FailWhy) → ¬ (FailsProtocol tested x marks other))
    × ((other : LooseWhy) → ¬ (IsLooseByProtocol tested x marks other))

-- the evidence of a transcript as it counts by the protocol: a close whose code is undefined is one, then what was
-- doomed counts, and the pongs behind a close; with the marks beside it
pub record IsMarkedEvidenceOf (tested : Role) (transcript : Transcript) (counted : Evidence) (marks : Marks)
    : Type 0 where
  pub shown : Evidence
  pub is_shown : IsEvidenceOf tested transcript shown
  pub closed : Evidence
  pub is_closed : HasUndefinedCodeCounted tested transcript shown closed
  pub doomed : Evidence
  pub is_doomed : HasDoomCounted tested transcript closed doomed
  pub is_counted : HasPongsCounted tested transcript doomed counted
  pub are_marks : AreMarksOf tested transcript marks

-- the verdict by the protocol on a transcript, where the tested end has this role
pub record IsProtocolVerdictOf (tested : Role) (transcript : Transcript) (verdict : Verdict) : Type 0 where
  pub counted : Evidence
  pub marks : Marks
  pub is_evidence : IsMarkedEvidenceOf tested transcript counted marks
  pub is_verdict : IsProtocolVerdictOn tested counted marks verdict

-- the verdict by what is expected of the tested end
abbrev pub IsVerdictBy : Expectation → Role → Transcript → Verdict → Type 0
IsVerdictBy Echo tested transcript verdict = IsVerdictOf tested transcript verdict
IsVerdictBy Protocol tested transcript verdict = IsProtocolVerdictOf tested transcript verdict
