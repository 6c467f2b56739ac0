-- Evidence that grows with a connection: what went over it so far, turn by turn, and in a turn piece by piece.
use Rattle.std.specs.Prelude.{◌≡◌, ℕ, ◌-◌, ◌<◌, ◌≤◌, ◌⊎◌, Bool, true, false, ⊤, List, [], ◌∷◌, ◌++◌, length}
use Rattle.std.specs.Prelude.{Option, Some, None}
use Rattle.std.specs.List.{concat, last_or, list_any}
use Rattle.ws_wire.specs.declared.role.Role.{Role}
use Rattle.ws_wire.specs.Frame.{Frame}
use Rattle.ws_session.specs.declared.event.Event.{Event}
use Rattle.ws_session.specs.declared.status.Status.{Status}
use Rattle.ws_session.specs.declared.status.Status.TheVariants as status
use Rattle.ws_session.specs.Exchange.{SessionValue, HasExchanged}
use Rattle.ws_session.specs.Sends.{most_limits}
use Rattle.ws_scripts.specs.declared.transcript.Turn.{Turn}
use Rattle.ws_scripts.specs.declared.transcript.Ended.TheVariants.{Tester}
use Rattle.ws_suite.specs.declared.evidence.InTurn.{InTurn}
use Rattle.ws_suite.specs.declared.evidence.Reply.{Reply}
use Rattle.ws_suite.specs.declared.evidence.Direction.{Direction}
use Rattle.ws_suite.specs.declared.evidence.Evidence.{Evidence}
use Rattle.ws_suite.specs.declared.evidence.collecting.Collected.{Collected}
use Rattle.ws_suite.specs.declared.evidence.keeping.AllReplies.{AllReplies}
use Rattle.ws_suite.specs.declared.evidence.keeping.ReplyTally.{ReplyTally}
use Rattle.ws_suite.specs.declared.evidence.keeping.RunReplies.{RunReplies}
use Rattle.ws_suite.specs.declared.evidence.last_ping.LastPing.{LastPing}
use Rattle.ws_suite.specs.declared.evidence.pairing.Pairing.{Pairing}
use Rattle.ws_suite.specs.Evidence.{IsDirectionOf, IsEvidenceOf, due_for, got_in, got_turns, other_role, sent_turns}
use Rattle.ws_suite.specs.Matching.{HasLastPong, IsBeginningOf, IsShortOfMessages, bare, due_messages, due_pongs}
use Rattle.ws_suite.specs.LastPings.{IsLastPingOf}
use Rattle.ws_suite.specs.Matching.{got_messages, matches, message_replies, pong_replies}
use Rattle.ws_suite.specs.Pairings.{IsPairingOf}
use Rattle.ws_suite.specs.Verdicts.{is_unmatched}

-- ---- turns that grow

-- a turn in which nothing was sent and nothing was got yet
abbrev pub new_turn : Turn
new_turn = record { sent = []; got = [] }

abbrev pub turn_with_sent : Turn → List ℕ → Turn
turn_with_sent turn bytes = record { sent = turn.sent ++ bytes; got = turn.got }

abbrev pub turn_with_got : Turn → List ℕ → Turn
turn_with_got turn bytes = record { sent = turn.sent; got = turn.got ++ bytes }

-- ---- what is due has come

-- No fewer messages were got than are due, and where pongs are due the last of them is there. Nothing is asked of which
-- messages came, nor of a close.
abbrev pub IsAnswered : Evidence → Type 0
IsAnswered x = (¬ (IsShortOfMessages x)) × (0 < length (due_pongs x) → HasLastPong x)

-- by what these turns show
pub record AreTurnsAnswered (tested : Role) (turns : List Turn) : Type 0 where
  pub evidence : Evidence
  pub is_evidence : IsEvidenceOf tested (record { turns = turns; ended = Tester }) evidence
  pub answered : IsAnswered evidence

-- ---- what is due can't come any more

-- the messages that were got are all that are due, and no others
abbrev pub AreAllMessages : Evidence → Type 0
AreAllMessages x = bare (got_messages x) ≡ bare (due_messages x)

-- What was got can't become what is due, whatever comes: the messages are no beginning of those due, or they are all
-- there, and a pong has no match. Nothing is asked of the turns in which they came.
abbrev pub CannotCome : Evidence → Type 0
CannotCome x = (¬ (IsBeginningOf (bare (got_messages x)) (bare (due_messages x))))
    ⊎ (AreAllMessages x × (list_any is_unmatched (matches x) ≡ true))

-- by what these turns show
pub record CannotComeAfter (tested : Role) (turns : List Turn) : Type 0 where
  pub evidence : Evidence
  pub is_evidence : IsEvidenceOf tested (record { turns = turns; ended = Tester }) evidence
  pub cannot : CannotCome evidence

-- What these turns have got ends inside a frame, by what they show: bytes stand behind its last event, as the verdict
-- on frames asks for it.
pub record EndInsideFrame (tested : Role) (turns : List Turn) : Type 0 where
  pub evidence : Evidence
  pub is_evidence : IsEvidenceOf tested (record { turns = turns; ended = Tester }) evidence
  pub inside : evidence.got.has_rest ≡ true

-- ---- what is kept

-- all replies are kept
abbrev pub AreAll : AllReplies → List (InTurn Reply) → Type 0
AreAll kept replies = kept.list ≡ replies

-- how many messages there are among the replies, and the last pong, are kept
pub record IsTallyOf (tally : ReplyTally) (replies : List (InTurn Reply)) : Type 0 where
  pub messages : tally.messages ≡ length (message_replies replies)
  pub last_pong : tally.last_pong ≡ last_or None (pong_replies replies)

-- the last due pong, if there is one, is the last that was got, and stands in no later turn
abbrev pub IsAnsweredPong : Option (InTurn Reply) → Option (InTurn Reply) → Type 0
IsAnsweredPong None got = ⊤
IsAnsweredPong (Some due) None = ⊥
IsAnsweredPong (Some due) (Some got) = (got.what ≡ due.what) × (due.turn ≤ got.turn)

-- what a run keeps of the replies: the tally of all, and those that were told since these were handed on
pub record AreKeptSince (handed : List (InTurn Reply)) (kept : RunReplies) (replies : List (InTurn Reply))
    : Type 0 where
  pub tally : IsTallyOf kept.tally replies
  pub fresh : replies ≡ handed ++ kept.fresh

-- by what is kept, what is due has come
abbrev pub AnswersTally : ReplyTally → ReplyTally → Type 0
AnswersTally due got = (due.messages ≤ got.messages) × IsAnsweredPong due.last_pong got.last_pong

-- ---- the evidence that grows

-- both directions as they were collected, with what is kept of their replies; what has come of comparing them; the
-- last ping that was sent; the sessions of the tested end, which has taken what was sent, and of the tester, which has
-- taken what was got; how many turns have begun; and the pings that were sent and aren't answered yet
pub record GrowingValue : Type 0 where
  pub due : Collected RunReplies
  pub got : Collected RunReplies
  pub pairing : Pairing
  pub last_ping : LastPing
  pub tested : SessionValue
  pub tester : SessionValue
  pub turns : ℕ
  pub pings : List (List ℕ)

-- A session of this role that takes the largest messages has taken the bytes of these turns, and what is collected is
-- what is found in them. What is kept stands for the replies so as `keeps` tells.
pub record HasTakenTurns {K : Type 0} (keeps : K → List (InTurn Reply) → Type 0) (found : Event → List Reply)
    (role : Role) (turns : List (List ℕ)) (session : SessionValue) (collected : Collected K) : Type 0 where
  pub shown : Direction
  pub is_shown : IsDirectionOf role found turns shown
  pub replies : keeps collected.replies shown.replies
  pub ending : collected.ending ≡ shown.ending
  pub has_rest : collected.has_rest ≡ shown.has_rest
  pub sent : List Frame
  pub exchanged : HasExchanged session sent (concat turns) false
  pub same_role : session.role ≡ role
  pub limits : session.limits ≡ most_limits

-- It has grown with just these turns, where the tested end has this role: so it shows the evidence of them.
-- All replies of both directions were handed on, to be compared.
pub record HasGrown (tested : Role) (turns : List Turn) (x : GrowingValue) : Type 0 where
  pub dues : List (InTurn Reply)
  pub gots : List (InTurn Reply)
  pub due : HasTakenTurns (AreKeptSince dues) due_for tested (sent_turns turns) x.tested x.due
  pub got : HasTakenTurns (AreKeptSince gots) got_in (other_role tested) (got_turns turns) x.tester x.got
  pub no_due : x.due.replies.fresh ≡ []
  pub no_got : x.got.replies.fresh ≡ []
  pub pairing : IsPairingOf dues gots x.pairing
  pub last_ping : IsLastPingOf (length turns - 1) dues gots x.last_ping
  pub count : x.turns ≡ length turns

-- ---- how a session stands whose stream has not ended

-- a close was taken
abbrev pub is_clean : Status → Bool
is_clean (status.Clean code) = true
is_clean _ = false

-- a fault was taken
abbrev pub is_failed : Status → Bool
is_failed (status.Failed reason) = true
is_failed _ = false
