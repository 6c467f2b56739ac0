-- Ends that cases are run over: what is known of a meeting with one in memory, and with a server at an address.
use Rattle.std.specs.Prelude.{◌≡◌, ◌⊎◌, ℕ, ◌≤◌, List, [], ◌++◌, Option, Some, None, Result, Ok, Err}
use Rattle.ws_wire.specs.declared.role.Role.{Role}
use Rattle.ws_wire.specs.declared.role.Role.TheVariants.{Server}
use Rattle.ws_session.specs.Replies.{key_for}
use Rattle.ws_suite.specs.Evidence.{other_role}
use Rattle.std.specs.List.{concat}
use Rattle.ws_frame.specs.Devices.{Device, HasWritten}
use Rattle.ws_connection.specs.Probing.{BeginsProbe, bytes_by_turn}
use Rattle.ws_handshake.specs.Probes.{ProbeGives, ProbeValue, WasProbed, wanted_of}
use Rattle.ws_loops.specs.Deeds.{Deed}
use Rattle.ws_loops.specs.Sinks.{lines_at}
use Rattle.ws_networks.specs.Bounds.{bounds_from}
use Rattle.ws_networks.specs.Connecting.{only_place}
use Rattle.ws_networks.specs.Meetings.{HasEnded, HasMet, HasMetShowing}
use Rattle.ws_networks.specs.Networks.{NetworkDeed}
use Rattle.ws_networks.specs.declared.dialing.Missed.{Missed}
use Rattle.ws_networks.specs.declared.dialing.Missed.TheVariants as missed
use Rattle.ws_networks.specs.declared.bounds.Limits.{Limits}
use Rattle.ws_networks.specs.declared.meeting.Met.{Met}
use Rattle.ws_networks.specs.declared.meeting.Met.TheVariants.{Ended, NotMade}
use Rattle.wst_network.specs.declared.connector.ConnectMiss.{ConnectMiss}
use Rattle.wst_network.specs.declared.connector.ConnectMiss.TheVariants.{NotFound, NotTaken}
use Rattle.wst_network.specs.declared.connector.StreamEnd.{StreamEnd}
use Rattle.wst_network.specs.declared.connector.StreamEnd.TheVariants as stream
use Rattle.ws_loops.specs.declared.fault.LoopFault.{LoopFault}
use Rattle.ws_loops.specs.declared.fault.LoopFault.TheVariants as fault
use Rattle.wst_testing.specs.declared.address_server.Bounds.{Bounds}
use Rattle.ws_peer.specs.EchoRuns.{IsEchoRun}
use Rattle.ws_peer.specs.Runs.{IsRunOf}
use Rattle.ws_peer.specs.Talks.{Entry}
use Rattle.ws_scripts.specs.Scripts.{AreTurns}
use Rattle.ws_suite.specs.Verdicts.{IsVerdictOf}
use Rattle.ws_tester.specs.RunStates.{PlanValue}
use Rattle.wst_commands.specs.TimeLimits.{is_limited, milliseconds_of}
use Rattle.wst_commands.specs.declared.time_limit.TimeLimit.{TimeLimit}
use Rattle.ws_suite.specs.declared.verdict.Verdict.TheVariants.{Pass}
use Rattle.ws_scripts.specs.declared.expectation.Expectation.{Expectation}
use Rattle.ws_scripts.specs.declared.script.Case.{Case}
use Rattle.ws_scripts.specs.declared.transcript.Transcript.{Transcript}
use Rattle.wst_testing.specs.declared.case_server.MemoryEnd.{MemoryEnd}
use Rattle.wst_testing.specs.declared.case_server.MemoryPeer.{MemoryPeer}
use Rattle.wst_testing.specs.declared.case_server.MemoryPeer.TheVariants.{Own, Tung}
use Rattle.ws_handshake.specs.declared.probe_end.Probe.{Probe}
use Rattle.ws_handshake.specs.declared.probe_end.Probe.TheVariants as probe
use Rattle.wst_sockets.specs.Connecting.{connect_fault_at, lookup_miss_at}
use Rattle.wst_sockets.specs.Meetings.{probe_of}
use Rattle.wst_sockets.specs.declared.meeting.ConnectFault.{ConnectFault}
use Rattle.wst_sockets.specs.declared.meeting.ConnectFault.TheVariants as why
use Rattle.wst_sockets.specs.declared.meeting.Meeting.{Meeting}
use Rattle.wst_sockets.specs.declared.meeting.Meeting.TheVariants.{NoConnection, Ran, Refused}
use Rattle.ws_connection.specs.UpgradeRequests.{RequestValue, request_value}
use Rattle.ws_connection.specs.declared.probing.Asked.{Asked}
use Rattle.ws_shown.specs.ShownProbes.{ShownGives, ShownValue, WasShown, shown_wants}
use Rattle.ws_shown.specs.declared.shown_probe.ShownEnd.{ShownEnd}
use Rattle.ws_shown.specs.declared.shown_probe.ShownStage.TheVariants.{Opening}
use Rattle.wst_testing.specs.LineOutputs.{untaken_lines}
use Rattle.ws_targets.specs.Targets.{TargetValue}
use Rattle.wst_testing.specs.declared.run_plans.RunPlan.{RunPlan}

-- The transcript is that of a run of the script's pieces in some talk with a peer of this role, of which nothing else
-- is known. The client masks with this key, be it the tester or the peer.
pub record IsPeerRun (tested : Role) (key : List ℕ) (case : Case) (transcript : Transcript) : Type 0 where
  pub turns : List (List (List ℕ))
  pub are_turns : AreTurns case (key_for (other_role tested) key) turns
  pub talk : List Entry
  pub is_run : IsRunOf turns talk transcript

-- over our echo the talk is an echo's, and the verdict on an end of its role is Pass; a socket of `tungstenite` may
-- answer anything
abbrev pub IsMemoryRun : MemoryPeer → Role → List ℕ → Case → Transcript → Type 0
IsMemoryRun Own tested key case transcript =
    IsEchoRun tested case key transcript × IsVerdictOf tested transcript Pass
IsMemoryRun Tung tested key case transcript = IsPeerRun tested key case transcript

-- an end in memory is always there, and asks for no handshake
abbrev pub MeetsInMemory : MemoryEnd → List ℕ → Case → Meeting → Type 0
MeetsInMemory end key case (Ran transcript) = IsMemoryRun end.peer end.role key case transcript
MeetsInMemory end key case (Refused fault) = ⊥
MeetsInMemory end key case (NoConnection why) = ⊥

-- ---- a server at an address

-- a server that is met over a network: what it is asked for, what is expected of it, for how long it may be silent, how
-- long a connection to it may last, and how many bytes are read of it at most in one case behind the head of its answer
pub record AddressValue : Type 0 where
  pub request : RequestValue
  pub expected : Expectation
  pub timeout : TimeLimit
  pub deadline : TimeLimit
  pub budget : ℕ

-- how a case is run over it
abbrev pub plan_at : AddressValue → PlanValue
plan_at server = record { tested = Server; expected = server.expected; timeouts = is_limited server.timeout }

-- for so long it may be silent, and so long a connection to it lasts
abbrev pub limits_within : TimeLimit → TimeLimit → Limits
limits_within timeout deadline = record { limit = milliseconds_of timeout; deadline = milliseconds_of deadline }

abbrev pub limits_of_server : AddressValue → Limits
limits_of_server server = limits_within server.timeout server.deadline

-- A stream that stands for all that it did: from the first state to the second one it did just these things.
abbrev pub DidThese : List Deed → List Deed → List Deed → Type 0
DidThese old new deeds = new ≡ old ++ deeds

-- Some stream did these things, and over it the server was asked for an upgrade so, and the case run, by the loop: what
-- its machine was told is what the stream did, in its order, and what the clock says, and the probe is what comes of
-- that. Bytes are written as far as they are taken, and meanwhile what comes is read. The limits of time begin when the
-- connection was made, and the deadline when it was begun.
pub record IsProbedSo (server : AddressValue) (key : List ℕ) (case : Case) (probe : Probe) : Type 0 where
  pub start : ProbeValue
  pub begins : BeginsProbe (plan_at server) (bytes_by_turn case (Some key)) server.request server.budget start
  pub begun : ℕ
  pub made : ℕ
  pub in_order : begun ≤ made
  pub to : ℕ
  pub did : List Deed
  pub ended : HasEnded WasProbed (λ (now : ProbeValue). wanted_of now) ProbeGives DidThese
      (bounds_from (limits_of_server server) begun) made to start probe did

-- there is no connection to the server, or one over which it was probed so; why there is none is not said
abbrev pub MeetsAtAddress : AddressValue → List ℕ → Case → Meeting → Type 0
MeetsAtAddress server key case meeting =
    (probe_of meeting ≡ probe.NoConnection) ⊎ IsProbedSo server key case (probe_of meeting)

-- why there is no connection, where none was made for this reason
abbrev pub reason_of_miss : Missed ConnectMiss → ConnectFault
reason_of_miss missed.NoAddress = why.NoSuchHost
reason_of_miss missed.TimedOut = why.TimedOut
reason_of_miss (missed.Failed (NotFound kind)) = lookup_miss_at kind
reason_of_miss (missed.Failed (NotTaken kind)) = connect_fault_at kind

-- why an answer was not whole, where the stream has ended so; where it hasn't, a limit of time has passed
abbrev pub reason_of_end : StreamEnd → ConnectFault
reason_of_end stream.Open = why.NoAnswer
reason_of_end stream.Ended = why.ClosedBeforeAnswer
reason_of_end (stream.Failed kind) = connect_fault_at kind

-- what came of a case by what its probe tells, and why no answer was whole, if none was
abbrev pub meeting_at : Probe → ConnectFault → Meeting
meeting_at (probe.Ran transcript) reason = Ran transcript
meeting_at (probe.Refused refusal) reason = Refused refusal
meeting_at probe.NoConnection reason = NoConnection reason

-- what came of a case, where this came of its machine: what that gives, or no connection, and why
abbrev pub IsMeetingBy : {S : Type 0} → Result (Met Probe S ConnectMiss) LoopFault → Meeting → Type 0
IsMeetingBy (Ok (Ended probe ended)) meeting = (end : StreamEnd) × (meeting ≡ meeting_at probe (reason_of_end end))
IsMeetingBy (Ok (NotMade reason)) meeting = meeting ≡ NoConnection (reason_of_miss reason)
IsMeetingBy (Err fault.NoMemory) meeting = ⊥
IsMeetingBy (Err fault.WaitFailed) meeting = meeting ≡ NoConnection why.Failed
IsMeetingBy (Err fault.NoOutput) meeting = meeting ≡ NoConnection why.Failed

-- The machine that puts this server's request and then runs this case was run over a connection to this name, by a
-- network that did just this, within its limits, and this came of it; or none was made, for the reason that is told; or
-- nothing could be waited for.
abbrev pub MeetsBecause : {S A N : Type 0} → (S → S → List Deed → Type 0)
    → (N → N → List (NetworkDeed A ConnectMiss) → Type 0) → AddressValue → List ℕ → Case → ℕ → ℕ → N → N → List ℕ
    → Meeting → Type 0
MeetsBecause {S} did does server key case from to old new name meeting =
    ((start : ProbeValue) × (met : Met Probe S ConnectMiss)
    × BeginsProbe (plan_at server) (bytes_by_turn case (Some key)) server.request server.budget start
    × HasMet WasProbed (λ (now : ProbeValue). wanted_of now) ProbeGives did does (limits_of_server server) from to old
    new name start met × IsMeetingBy (Ok met) meeting)
    ⊎ (meeting ≡ NoConnection why.Failed)

-- what is asked so, within these bounds
abbrev pub asked_within : Asked → Bounds → AddressValue
asked_within asked bounds = record {
  request = request_value asked.request;
  expected = asked.expected;
  timeout = bounds.timeout;
  deadline = bounds.deadline;
  budget = bounds.budget;
}

-- ---- a server at an address, where the lines of the run are written as it goes on

-- Some stream did these things, and over it the server was asked for an upgrade so, and the case run, by the loop, as
-- `IsProbedSo` has it; and its lines were wanted and taken in their place among all that happened.
pub record IsShownSo (server : AddressValue) (key : List ℕ) (case : Case) (probe : Probe) : Type 0 where
  pub start : ShownValue
  pub asking : ProbeValue
  pub opens : start.stage ≡ Opening asking
  pub begins : BeginsProbe (plan_at server) (bytes_by_turn case (Some key)) server.request server.budget asking
  pub begun : ℕ
  pub made : ℕ
  pub in_order : begun ≤ made
  pub to : ℕ
  pub did : List Deed
  pub end : ShownEnd
  pub is_probe : end.probe ≡ probe
  pub ended : HasEnded WasShown (λ (now : ShownValue). shown_wants now) ShownGives DidThese
      (bounds_from (limits_of_server server) begun) made to start end did

-- there is no connection to the server, or one over which it was probed and shown so; why there is none is not said
abbrev pub ShowsAtAddress : AddressValue → List ℕ → Case → Meeting → Type 0
ShowsAtAddress server key case meeting =
    (probe_of meeting ≡ probe.NoConnection) ⊎ IsShownSo server key case (probe_of meeting)

-- what came of a case, where this came of its machine
abbrev pub IsShownMeeting : {S : Type 0} → Met ShownEnd S ConnectMiss → Meeting → Type 0
IsShownMeeting (Ended end stream) meeting =
    (how : StreamEnd) × (meeting ≡ meeting_at end.probe (reason_of_end how))
IsShownMeeting (NotMade reason) meeting = meeting ≡ NoConnection (reason_of_miss reason)

-- lines that stand for all that were taken: from the first state to the second one just these were
abbrev pub TookThese : List (ℕ × List ℕ) → List (ℕ × List ℕ) → List (ℕ × List ℕ) → Type 0
TookThese old new taken = new ≡ old ++ taken

-- The machine that puts this server's request, then runs this case, and wants its lines to be shown, was run over a
-- connection to this name, by a network that did just this, within its limits, and this came of it; or none was made,
-- for the reason that is told. What was written is just the lines that were taken, in their place among all that
-- happened, and the last ones behind them.
pub record ShowsBecause {S A N : Type 0} (did : S → S → List Deed → Type 0)
    (does : N → N → List (NetworkDeed A ConnectMiss) → Type 0) (server : AddressValue) (key : List ℕ) (case : Case)
    (from to : ℕ) (old new : N) (name : List ℕ) (meeting : Meeting) (output : Device) : Type 0 where
  pub start : ShownValue
  pub asking : ProbeValue
  pub opens : start.stage ≡ Opening asking
  pub begins : BeginsProbe (plan_at server) (bytes_by_turn case (Some key)) server.request server.budget asking
  pub met : Met ShownEnd S ConnectMiss
  pub taken : List (ℕ × List ℕ)
  pub shows : HasMetShowing TookThese [] taken WasShown (λ (now : ShownValue). shown_wants now) ShownGives did does
      (limits_of_server server) from to old new name start met
  pub is_meeting : IsShownMeeting met meeting
  pub written : HasWritten (concat (lines_at only_place taken) ++ untaken_lines met) output

-- ---- as a plan has it

-- what a plan asks of the server at a target
abbrev pub asked_by : RunPlan → TargetValue → AddressValue
asked_by plan target = record {
  request = record { host = target.host; path = target.path; offers = plan.protocols; headers = plan.headers };
  expected = plan.expected;
  timeout = plan.timeout;
  deadline = plan.deadline;
  budget = plan.budget;
}

-- what may come of a case that is run by this plan over the server at a target
abbrev pub MeetsAtTarget : TargetValue → RunPlan → Case → Meeting → Type 0
MeetsAtTarget target plan case meeting = MeetsAtAddress (asked_by plan target) plan.key case meeting

-- and where its lines are written
abbrev pub ShowsTarget : TargetValue → RunPlan → Case → Meeting → Type 0
ShowsTarget target plan case meeting = ShowsAtAddress (asked_by plan target) plan.key case meeting
