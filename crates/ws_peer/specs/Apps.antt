-- The talks that a tester may have with an application that keeps the protocol: it sends frames of its own as the rules
-- of sending allow, answers what it takes, and may lag behind what it was fed. RFC 6455 sections 5.4 to 5.6 and 7.1.
use Rattle.std.specs.Prelude.{◌≡◌, ℕ, ◌+◌, ◌-◌, ◌⊎◌, ◌↔◌, min, Bool, true, false, List, [], ◌∷◌, ◌++◌, length, map}
use Rattle.std.specs.Prelude.{take, drop, Some, ⊤}
use Rattle.std.specs.List.{AllByRecursion, list_any, slice_get}
use Rattle.ws_wire.specs.declared.role.Role.{Role}
use Rattle.ws_wire.specs.Header.{AreBytes}
use Rattle.ws_wire.specs.Frame.{Frame, KeyedFrame, FitsTheLayout, stream_bytes}
use Rattle.ws_session.specs.declared.event.Event.{Event}
use Rattle.ws_session.specs.declared.send_fault.SendFault.{SendFault}
use Rattle.ws_session.specs.Events.{HasEvents}
use Rattle.ws_session.specs.Exchange.{Exchange, SessionValue, HasExchanged, is_over, status_of}
use Rattle.ws_session.specs.Faults.{KeysFit, frames_of}
use Rattle.ws_session.specs.Replies.{key_for, replies_by, reply_to, under_key}
use Rattle.ws_session.specs.Sends.{Send, IsFirstWrong, MaySend, frame_of, most_limits}
use Rattle.ws_session.specs.Sends as send
use Rattle.ws_session.specs.Validity.{AreValidFrames}
use Rattle.ws_sends.specs.declared.keyed_send.KeyedSend.{KeyedSend}
use Rattle.ws_sends.specs.KeyedSends.{key_in, send_in}
use Rattle.ws_scripts.specs.Scripts.{AreTurns}
use Rattle.ws_scripts.specs.declared.script.Case.{Case}
use Rattle.ws_scripts.specs.declared.transcript.Transcript.{Transcript}
use Rattle.ws_suite.specs.declared.verdict.FailWhy.{FailWhy}
use Rattle.ws_suite.specs.declared.verdict.Verdict.TheVariants.{Fail, Pass}
use Rattle.ws_suite.specs.Evidence.{other_role}
use Rattle.ws_suite.specs.Protocol.{IsProtocolVerdictOf}
use Rattle.ws_peer.specs.declared.app_peer.AppStep.{AppStep}
use Rattle.ws_peer.specs.declared.peer.Going.{Going}
use Rattle.ws_peer.specs.declared.peer.Going.TheVariants.{Ended}
use Rattle.ws_peer.specs.Runs.{IsRunOf}
use Rattle.ws_peer.specs.Talks.{Entry, Fed, Finished, PeerEnd, PlannedStep}

-- ---- plans

abbrev pub is_close_send : Send → Bool
is_close_send (send.Close close) = true
is_close_send _ = false

abbrev pub planned : AppStep → PlannedStep
planned step = record { takes = step.takes; sends = step.sends.items }

abbrev pub planned_in : List AppStep → List PlannedStep
planned_in steps = map planned steps

-- so many of the bytes that wait are taken next: all where the plan is at its end
abbrev pub taken_next : List PlannedStep → ℕ → ℕ
taken_next [] waiting = waiting
taken_next (step ∷ plan) waiting = min step.takes waiting

-- these frames are to be sent next: none where the plan is at its end
abbrev pub sends_next : List PlannedStep → List KeyedSend
sends_next [] = []
sends_next (step ∷ plan) = step.sends

abbrev pub plan_after : List PlannedStep → List PlannedStep
plan_after [] = []
plan_after (step ∷ plan) = plan

-- so many bytes wait after these pieces were fed, where so many waited before them
abbrev pub waiting_after : List PlannedStep → ℕ → List (List ℕ) → ℕ
waiting_after plan waiting [] = waiting
waiting_after plan waiting (piece ∷ pieces) = waiting_after (plan_after plan)
    (waiting + length piece - taken_next plan (waiting + length piece)) pieces

-- by the end of each of these turns all that was fed is taken: a tester waits for what is owed before the next one
abbrev pub TakesAllByTurn : List PlannedStep → List (List (List ℕ)) → Type 0
TakesAllByTurn plan [] = ⊤
TakesAllByTurn plan (pieces ∷ turns) = (waiting_after plan 0 pieces ≡ 0)
    × TakesAllByTurn (drop (length pieces) plan) turns

abbrev pub has_close_send : List KeyedSend → Bool
has_close_send sends = list_any (λ x. is_close_send (send_in x)) sends

-- no step sends a close
abbrev pub SendNoClose : List PlannedStep → Type 0
SendNoClose steps = AllByRecursion (λ (step : PlannedStep). has_close_send step.sends ≡ false) steps

-- ---- sends, one after the other

-- By an endpoint of this role that was told these events and has sent these frames: each send that is refused is passed
-- by, and any other is the next of the frames, under its key. They are no others.
abbrev pub AreFramesOfSends : Role → List Event → List Frame → List KeyedSend → List KeyedFrame → Type 0
AreFramesOfSends role events sent [] frames = frames ≡ []
AreFramesOfSends role events sent (x ∷ sends) frames =
    ((fault : SendFault) × IsFirstWrong sent (status_of sent false events) (send_in x) fault
    × AreFramesOfSends role events sent sends frames)
    ⊎ (MaySend sent (status_of sent false events) (send_in x)
    × ((later : List KeyedFrame) × (frames ≡ under_key role (key_in x) (frame_of (send_in x)) ∷ later)
    × AreFramesOfSends role events (sent ++ frame_of (send_in x) ∷ []) sends later))

-- ---- what an application has said

-- the frames that it sent, the bytes that it was fed, how many of these it has taken, and what it does each next time
-- that it is fed
pub record AppHistory : Type 0 where
  pub sent : List Frame
  pub fed : List ℕ
  pub taken : ℕ
  pub plan : List PlannedStep

abbrev pub nothing_said : List PlannedStep → AppHistory
nothing_said plan = record { sent = []; fed = []; taken = 0; plan = plan }

abbrev pub taken_of_fed : AppHistory → List ℕ
taken_of_fed history = take history.taken history.fed

-- At this end it was fed a piece: (1) it took as many more of the bytes that it was fed as its plan says; (2) it
-- answered the events of that as any session does (its messages aren't sent back), and then sent those frames of its
-- plan that may be sent, in order and each under its key, and no others; (3) all that it has sent is valid; (4) these
-- frames are what it appended; (5) it has ended exactly where its session is over.
pub record TakesFed (end : PeerEnd) (old new : AppHistory) (piece appended : List ℕ) (going : Going) : Type 0 where
  pub fed : new.fed ≡ old.fed ++ piece
  pub took : new.taken ≡ old.taken + taken_next old.plan (length new.fed - old.taken)
  pub plan : new.plan ≡ plan_after old.plan
  pub before : List Event
  pub had : HasEvents end.role most_limits (taken_of_fed old) before
  pub later : List Event
  pub has : HasEvents end.role most_limits (taken_of_fed new) (before ++ later)
  pub own : List KeyedFrame
  pub layout : AllByRecursion FitsTheLayout own
  pub keys : KeysFit (other_role end.role) own
  pub are_sent : AreFramesOfSends end.role (before ++ later) (old.sent ++ replies_by reply_to old.sent later)
      (sends_next old.plan) own
  pub sent : new.sent ≡ old.sent ++ (replies_by reply_to old.sent later ++ frames_of own)
  pub valid : AreValidFrames most_limits new.sent
  pub put : appended
      ≡ stream_bytes (map (under_key end.role end.key) (replies_by reply_to old.sent later) ++ own)
  pub ended : (going ≡ Ended) ↔ (is_over (status_of new.sent false (before ++ later)) ≡ true)

-- one call: a piece is taken so; or it is told that no more comes, and does nothing
abbrev pub SaysAfter : PeerEnd → AppHistory → AppHistory → Entry → Type 0
SaysAfter end old new (Fed piece appended going) = TakesFed end old new piece appended going
SaysAfter end old new (Finished appended) = (new ≡ old) × (appended ≡ [])

-- the talk of an application at this end, with what it has said after each call
pub record IsAppTalk (end : PeerEnd) (talk : List Entry) (said : ℕ → AppHistory) : Type 0 where
  pub begun : said 0 ≡ nothing_said end.plan
  pub each : (n : ℕ) (entry : Entry) → slice_get talk n ≡ Some entry → SaysAfter end (said n) (said (n + 1)) entry

-- after so many calls it has taken all that it was fed
abbrev pub HasTakenAllFed : AppHistory → Type 0
HasTakenAllFed history = history.taken ≡ length history.fed

-- ---- an application as a peer

-- its session, the key with which it masks its answers where it is the client, its plan and how many steps of that are
-- done, all that it was fed and how many bytes of that it has taken, and whether memory ran out
pub record AppPeerValue : Type 0 where
  pub session : SessionValue
  pub key : List ℕ
  pub plan : List PlannedStep
  pub done : ℕ
  pub fed : List ℕ
  pub taken : ℕ
  pub is_spent : Bool

-- The peer may have had this talk as this end: it has the end's key and plan, the talk is an application's, and what it
-- has said last is what its session has exchanged, what it was fed, which is bytes, and what it has taken and done.
pub record MayHaveSaid (peer : AppPeerValue) (end : PeerEnd) (talk : List Entry) : Type 0 where
  pub key : peer.key ≡ end.key
  pub plan : peer.plan ≡ end.plan
  pub said : ℕ → AppHistory
  pub is_app : IsAppTalk end talk said
  pub exchanged : HasExchanged peer.session (said (length talk)).sent (taken_of_fed (said (length talk))) false
  pub role : peer.session.role ≡ end.role
  pub limits : peer.session.limits ≡ most_limits
  pub fed : peer.fed ≡ (said (length talk)).fed
  pub bytes : AreBytes peer.fed
  pub taken : peer.taken ≡ (said (length talk)).taken
  pub rest : drop peer.done peer.plan ≡ (said (length talk)).plan

-- A session does these sends, but for those that are refused: whatever it has exchanged, it has sent their frames too.
pub record SendsOwn (sends : List KeyedSend) (old new : SessionValue) (before after : List ℕ) : Type 0 where
  pub own : List KeyedFrame
  pub layout : AllByRecursion FitsTheLayout own
  pub keys : KeysFit (other_role old.role) own
  pub are_sent : (sent : List Frame) (taken : List ℕ) (events : List Event) → HasExchanged old sent taken false
      → HasEvents old.role old.limits taken events → AreFramesOfSends old.role events sent sends own
  pub put : after ≡ before ++ stream_bytes own
  pub agrees : (exchange : Exchange) → HasExchanged old exchange.sent exchange.taken exchange.ended
      → HasExchanged new (exchange.sent ++ frames_of own) exchange.taken exchange.ended
  pub valid : (exchange : Exchange) → HasExchanged old exchange.sent exchange.taken exchange.ended
      → AreValidFrames most_limits exchange.sent → AreValidFrames most_limits (exchange.sent ++ frames_of own)
  pub same : (new.role ≡ old.role) × (new.limits ≡ old.limits)

-- an application of this role with this plan
abbrev pub app_end : Role → List ℕ → List PlannedStep → PeerEnd
app_end role key plan = record { role = role; key = key; plan = plan }

-- ---- a run

-- The transcript of a script over a new application of this role with this plan, where the client, be it the tester or
-- the application, masks its answers with this key: it is that of a run of the script's pieces, in a talk of an
-- application.
pub record IsAppRun (tested : Role) (case : Case) (key : List ℕ) (plan : List PlannedStep)
    (turns : List (List (List ℕ))) (transcript : Transcript) : Type 0 where
  pub are_turns : AreTurns case (key_for (other_role tested) key) turns
  pub talk : List Entry
  pub is_run : IsRunOf turns talk transcript
  pub said : ℕ → AppHistory
  pub is_app : IsAppTalk (app_end tested key plan) talk said

-- Where the application has taken all by the end of each turn, the verdict by the protocol is no Fail; and it is Pass
-- where it sends no close of its own.
pub record IsFairToApps (tested : Role) (plan : List PlannedStep) (turns : List (List (List ℕ)))
    (transcript : Transcript) : Type 0 where
  pub no_fail : TakesAllByTurn plan turns → (why : FailWhy)
      → ¬ (IsProtocolVerdictOf tested transcript (Fail why))
  pub passes : TakesAllByTurn plan turns → SendNoClose plan → IsProtocolVerdictOf tested transcript Pass
