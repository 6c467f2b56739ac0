-- A script that is run against a tested end (RFC 6455 sections 4.1 and 5 to 7): what is recorded is what went over the
-- connection, and how it ended.
use Rattle.std.specs.Prelude.{◌≡◌, ℕ, ◌≤◌, false, List, [], ◌∷◌, ◌++◌, length, drop, map, codes, MatchOption}
use Rattle.std.specs.Prelude.{Option, Some}
use Rattle.std.specs.List.{concat}
use Rattle.ws_frame.specs.Devices.{HasBegun}
use Rattle.ws_wire.specs.declared.role.Role.TheVariants.{Server}
use Rattle.ws_upgrade.specs.Accept.{key_of}
use Rattle.ws_upgrade.specs.Reading.{HasStatusCode, LacksStatusCode, max_head}
use Rattle.ws_scripts.specs.declared.script.Case.{Case}
use Rattle.ws_scripts.specs.declared.transcript.Transcript.{Transcript}
use Rattle.ws_scripts.specs.Scripts.{turns_of, turn_bytes}
use Rattle.ws_machines.specs.Told.{Told, all_came, all_taken}
use Rattle.ws_machines.specs.Machines.{IsFirstWanted}
use Rattle.ws_tester.specs.Following.{BeginsRun, Happens}
use Rattle.ws_tester.specs.Outgoings.{HaveBytes, Pieces}
use Rattle.ws_tester.specs.Records.{IsRecorded}
use Rattle.ws_tester.specs.RunStates.{PlanValue, RunState, recorded, wanted_in}
use Rattle.ws_connection.specs.ConnectionValues.{ConnectionRun, ConnectionValue}
use Rattle.ws_connection.specs.Connections.{HasWorked, ReadsBytes, WritesBytes, output_of}
use Rattle.ws_connection.specs.StreamCalls.{DidCalls}
use Rattle.ws_handshake.specs.ReadingHeads.{IsUndecided, ReadsNoFurther}
use Rattle.ws_handshake.specs.Probes.{AskedValue, LosesHead, ProbeValue, WasAsked}
use Rattle.ws_handshake.specs.Responses.{DecidesResponse, NeedsResponse}
use Rattle.ws_connection.specs.UpgradeRequests.{RequestValue, text_of_request}
use Rattle.ws_handshake.specs.declared.probe_machine.ProbeStage.TheVariants.{Opening}
use Rattle.ws_handshake.specs.declared.response_head.ResponseDecision.{ResponseDecision}
use Rattle.ws_handshake.specs.declared.response_head.ResponseDecision.TheVariants.{Accepted, Refused as RefusedHead}
use Rattle.ws_connection.specs.declared.probing.Asked.{Asked}
use Rattle.ws_connection.specs.declared.driving.ScriptRun.{ScriptRun}
use Rattle.ws_handshake.specs.declared.probe_end.HeadRefusal.{HeadRefusal}
use Rattle.ws_handshake.specs.declared.probe_end.Probe.{Probe}
use Rattle.ws_handshake.specs.declared.probe_end.Probe.TheVariants.{Ran, Refused, NoConnection}

-- the bytes of each turn of a script, its frames masked with this key if there is one
abbrev pub bytes_by_turn : Case → Option (List ℕ) → List (List ℕ)
bytes_by_turn case key = map (turn_bytes key) (turns_of case.steps)

-- a plan, as the tester has it
abbrev pub plan_of : ScriptRun → PlanValue
plan_of plan = record { tested = plan.tested; expected = plan.expected; timeouts = plan.has_timeouts }

-- what is asked of a server, as the plan of a tester
abbrev pub plan_asked : Asked → PlanValue
plan_asked asked = record { tested = Server; expected = asked.expected; timeouts = asked.has_timeouts }

-- What was told of a run, event by event, each of them the first that was wanted then: so what is to be written is
-- written before anything is read, and the own direction is ended before that.
abbrev pub FollowsInOrder : RunState → RunState → List Told → Type 0
FollowsInOrder start now [] = now ≡ start
FollowsInOrder start now (event ∷ told) = (next : RunState) × Happens start event next
    × IsFirstWanted (wanted_in start) event × FollowsInOrder next now told

-- the transcript is that of the state to which a run has come that was told just this, in this order
pub record IsRunInOrder (start : RunState) (told : List Told) (transcript : Transcript) : Type 0 where
  pub now : RunState
  pub follows : FollowsInOrder start now told
  pub turns : transcript.turns ≡ recorded now
  pub ended : now.ended ≡ Some transcript.ended

-- A script was run over a connection by this plan. Its turns have these bytes, and the first has got `first`. What its
-- tester was told is what the connection did, call by call: just what was taken was written, and just what came was
-- read. The transcript is that of the tester, which may read as much as the connection.
pub record Records (plan : PlanValue) (turns : List (List ℕ)) (first : List ℕ) (transcript : Transcript)
    (run : ConnectionRun) : Type 0 where
  pub script : List Pieces
  pub bytes : map concat script ≡ turns
  pub has_bytes : HaveBytes script
  pub told : List Told
  pub did : DidCalls run.old run.new told
  pub has_got : ReadsBytes (all_came told) run
  pub has_put : WritesBytes (all_taken told) run
  pub start : RunState
  pub begins : BeginsRun (record { plan = plan; script = script; budget = run.old.input.allowance; first = first })
      start
  pub in_order : IsRunInOrder start told transcript
  pub recorded : IsRecorded start told transcript

-- ---- a connection to a server

-- the nonce of each request
abbrev pub probe_nonce : List ℕ
probe_nonce = codes "the sample nonce"

-- what is asked of a server by a probe that may read so many bytes behind the head of its answer
abbrev pub asked_over : PlanValue → RequestValue → ℕ → AskedValue
asked_over plan request budget =
    record { nonce = probe_nonce; offers = request.offers; plan = plan; budget = budget }

-- A probe of which nothing was told: it is to put this request, then to read the head of the answer, and then to run a
-- script by this plan whose turns have these bytes.
pub record BeginsProbe (plan : PlanValue) (turns : List (List ℕ)) (request : RequestValue) (budget : ℕ)
    (start : ProbeValue) : Type 0 where
  pub asked : start.asked ≡ asked_over plan request budget
  pub bytes : map concat start.script ≡ turns
  pub has_bytes : HaveBytes start.script
  pub request_is : start.rest ≡ text_of_request request (key_of probe_nonce)
  pub none_read : start.read ≡ []
  pub opens : start.stage ≡ Opening

-- these bytes were read for the head of the answer to such offers, and decide so: at most 8192, and at most 1024 behind
-- bytes that need more
pub record ReadsResponse (offers : List (List ℕ)) (head : List ℕ) (decision : ResponseDecision) : Type 0 where
  pub decides : DecidesResponse probe_nonce offers head decision
  pub bound : length head ≤ max_head
  pub no_further : ReadsNoFurther (NeedsResponse probe_nonce offers) head

-- Call by call this request was written, to its last byte, and then this head of its answer was read.
pub record AsksServer (request head : List ℕ) (run : ConnectionRun) : Type 0 where
  pub told : List Told
  pub did : DidCalls run.old run.new told
  pub was_asked : WasAsked request [] [] head told

-- The request was written, `request`, its answer was read, which accepts it with one of these offers or none, and
-- behind its head a script was run by this plan whose turns have these bytes.
pub record RunsScript (plan : PlanValue) (turns offers : List (List ℕ)) (request : List ℕ) (transcript : Transcript)
    (run : ConnectionRun) : Type 0 where
  pub head : List ℕ
  pub used : ℕ
  pub protocol : Option ℕ
  pub is_head : ReadsResponse offers head (Accepted used protocol)
  pub ready : ConnectionValue
  pub asks : AsksServer request head (record { old = run.old; new = ready })
  pub has_got : ReadsBytes head (record { old = run.old; new = ready })
  pub has_put : WritesBytes request (record { old = run.old; new = ready })
  pub budget : ready.input.allowance ≡ run.old.input.allowance
  pub runs : Records plan turns (drop used head) transcript (record { old = ready; new = run.new })

-- The answer was read to where it is to be refused, and nothing else; and it is told which status it has.
pub record RefusesResponse (offers : List (List ℕ)) (request : List ℕ) (refusal : HeadRefusal)
    (run : ConnectionRun) : Type 0 where
  pub head : List ℕ
  pub is_head : ReadsResponse offers head (RefusedHead refusal.fault)
  pub status : MatchOption refusal.status (LacksStatusCode head) (HasStatusCode head)
  pub asks : AsksServer request head run
  pub has_got : ReadsBytes head run
  pub has_put : WritesBytes request run
  pub works : HasWorked run.new
  pub both_open : run.new.output.ended ≡ false

-- There was no whole answer: call by call a beginning of the request was written, and once all of it was, these bytes
-- of the answer were read, which decide nothing; and then the last call has ended it. While some of the request was
-- left that is a write that failed; behind it a read that failed or waited in vain, or the end of the stream; or by it
-- the deadline had passed.
pub record HasNoAnswer (offers : List (List ℕ)) (request : List ℕ) (run : ConnectionRun) : Type 0 where
  pub before : List Told
  pub last : Told
  pub did : DidCalls run.old run.new (before ++ last ∷ [])
  pub rest : List ℕ
  pub read : List ℕ
  pub was_asked : WasAsked request rest [] read before
  pub is_open : IsUndecided (NeedsResponse probe_nonce offers) read
  pub loses : LosesHead rest last
  pub has_got : ReadsBytes read run
  pub has_put : HasBegun request (output_of run)

-- what came of a connection, over which this request with these offers was put before what the turns sent
abbrev pub AnswersProbe : PlanValue → List (List ℕ) → List (List ℕ) → List ℕ → Probe → ConnectionRun → Type 0
AnswersProbe plan turns offers request (Ran transcript) run = RunsScript plan turns offers request transcript run
AnswersProbe plan turns offers request (Refused refusal) run = RefusesResponse offers request refusal run
AnswersProbe plan turns offers request NoConnection run = HasNoAnswer offers request run

-- what came of a connection over which a server was asked for an upgrade by this request, and this script was to be run
-- by this plan
abbrev pub Probes : PlanValue → Case → List ℕ → RequestValue → Probe → ConnectionRun → Type 0
Probes plan case key request probe run = AnswersProbe plan (bytes_by_turn case (Some key)) request.offers
    (text_of_request request (key_of probe_nonce)) probe run
