-- A run of `send`: the script that comes in is run over the end that the words name, and what went over the
-- connection is written; or it is told why it is not run.
use Rattle.std.specs.Prelude.{◌≡◌, ◌⊎◌, ◌&&◌, ◌||◌, ℕ, Bool, true, false, not, List, None, Result, Ok, Err}
use Rattle.ws_base.specs.declared.text_fault.TextFault.{TextFault}
use Rattle.ws_base.specs.declared.text_fault.TextFault.TheVariants as text_fault
use Rattle.ws_formats.specs.Lines.{Damages}
use Rattle.ws_frame.specs.Devices.{Device, HasBegun, HasWritten, IsUntouched}
use Rattle.ws_handshake.specs.declared.probe_end.HeadRefusal.{HeadRefusal}
use Rattle.ws_lines.specs.declared.transcript_lines.Showing.{Showing}
use Rattle.ws_scripts.specs.Captures2.{written_capture2}
use Rattle.ws_scripts.specs.ScriptTexts.{IsScriptText, IsTextOfScript}
use Rattle.ws_scripts.specs.declared.expectation.Expectation.{Expectation}
use Rattle.ws_scripts.specs.declared.script.Case.{Case}
use Rattle.ws_scripts.specs.declared.transcript.Transcript.{Transcript}
use Rattle.ws_wire.specs.declared.role.Role.{Role}
use Rattle.wst_words.specs.declared.send.SendOptions.{SendOptions}
use Rattle.wst_commands.specs.Devices.{Tells}
use Rattle.wst_commands.specs.ReadingWhole.{ReadsAll, StopsReading, stopped}
use Rattle.wst_commands.specs.StepDamages.{step_damage}
use Rattle.wst_commands.specs.declared.exit.Exit.{Exit}
use Rattle.wst_commands.specs.declared.exit.Exit.TheVariants.{Damaged, Done, Failed, WrongWords}
use Rattle.wst_commands.specs.declared.fault.Fault.{Fault}
use Rattle.wst_commands.specs.declared.fault.Fault.TheVariants.{NoMemory, NotAStep}
use Rattle.wst_commands.specs.declared.reading_whole.ReadStop.{ReadStop}
use Rattle.wst_sockets.specs.declared.meeting.ConnectFault.{ConnectFault}
use Rattle.wst_sockets.specs.declared.meeting.ConnectFault.TheVariants as why
use Rattle.wst_sockets.specs.declared.meeting.Meeting.{Meeting}
use Rattle.wst_sockets.specs.declared.meeting.Meeting.TheVariants.{NoConnection, Ran, Refused}
use Rattle.wst_testing.specs.LineWriting.{HasWrittenRun}
use Rattle.wst_testing.specs.Notes.{TellsEach}
use Rattle.wst_testing.specs.Outcomes.{refused_lines}
use Rattle.wst_testing.specs.RunPlans.{IsRunPlan, CanNotRun, is_in_memory, tested_role}
use Rattle.wst_testing.specs.Servers.{MeetsAtTarget, MeetsInMemory, ShowsTarget}
use Rattle.wst_testing.specs.Testing.{run_capture}
use Rattle.wst_testing.specs.Tried.{missed_notes}
use Rattle.wst_testing.specs.declared.run_plans.Refusal.{Refusal}
use Rattle.wst_testing.specs.declared.run_plans.Refusal.TheVariants as refusal
use Rattle.wst_testing.specs.declared.run_plans.RunPlan.{RunPlan}
use Rattle.wst_testing.specs.declared.run_plans.TestedEnd.{TestedEnd}
use Rattle.wst_testing.specs.declared.run_plans.TestedEnd.TheVariants.{Clients, Memory, Server}
use Rattle.wst_testing.specs.declared.run_plans.UsualTimes.TheVariants.{OfScript}
use Rattle.wst_run.specs.ClientRuns.{EndsBehind, GoesBefore, HintsEcho, NotesCodes, SendsAt}
use Rattle.wst_run.specs.declared.send.SendPlan.{SendPlan}

-- ---- what the words ask for

-- the words ask for this
pub record IsSendPlan (options : SendOptions) (plan : SendPlan) : Type 0 where
  pub run : IsRunPlan OfScript options.run plan.run
  pub capture : plan.capture ≡ options.capture
  pub style : plan.style ≡ options.style
  pub time : plan.time ≡ options.time
  pub heads : plan.heads ≡ options.heads
  pub apart : options.time ≡ true → is_in_memory plan.run.tested ≡ false

-- The first of these that applies: the words can't be run; times are asked for, and the end stands in memory.
abbrev pub RefusesSend : SendOptions → Refusal → Type 0
RefusesSend options refusal.TimeInMemory = (options.time ≡ true)
    × ((run : RunPlan) × IsRunPlan OfScript options.run run × (is_in_memory run.tested ≡ true))
RefusesSend options other = CanNotRun options.run other

-- its lines have times or heads: a capture has neither
abbrev pub is_noted : SendPlan → Bool
is_noted plan = not plan.capture && (plan.time || plan.heads)

-- ---- what is written

-- how the lines of a plan are shown
abbrev pub send_showing : SendPlan → Showing
send_showing plan =
    record { tested = tested_role plan.run.tested; style = plan.style; sent_fault = None; got_fault = None }

-- the lines of a run were written, flushed, or its capture, with the key under which frames without one were masked
abbrev pub WritesRun : SendPlan → Transcript → Device → Type 0
WritesRun plan transcript output =
    ((plan.capture ≡ false) × HasWrittenRun (send_showing plan) transcript output)
    ⊎ ((plan.capture ≡ true)
    × HasWritten (written_capture2 (run_capture (tested_role plan.run.tested) plan.run.key transcript)) output
    × (output.failed ≡ false))

-- an end meets a case as for a capture; or as where its lines are written
abbrev pub MeetsAs : Bool → (Case → Meeting → Type 0) → (Case → Meeting → Type 0) → Case → Meeting → Type 0
MeetsAs true Captures Shows case meeting = Captures case meeting
MeetsAs false Captures Shows case meeting = Shows case meeting

-- A beginning of the capture of a run was written, where one is asked for; of lines it is not said what was written.
abbrev pub HasBegunRun : (Case → Meeting → Type 0) → SendPlan → Case → Device → Type 0
HasBegunRun Meets plan case output = (plan.capture ≡ true) → (transcript : Transcript) × Meets case (Ran transcript)
    × HasBegun (written_capture2 (run_capture (tested_role plan.run.tested) plan.run.key transcript)) output

-- Behind lines it may be told what to type, only where an echo is expected and the replies are none of one; behind a
-- capture nothing is told.
abbrev pub HintsRun : Bool → Expectation → Role → Transcript → Device → Type 0
HintsRun true expected tested transcript faults = IsUntouched faults
HintsRun false expected tested transcript faults = HintsEcho expected tested transcript faults

-- nothing was written; or lines may have been, before the network could not be waited for any more
abbrev pub MayHaveLines : SendPlan → ConnectFault → Device → Type 0
MayHaveLines plan reason output = IsUntouched output ⊎ ((plan.capture ≡ false) × (reason ≡ why.Failed))

-- The script was run over one of the ends that meet cases so, and that was written; or its answer is refused, or there
-- is no connection, which is told; or the output has failed; or memory ran out, and nothing was written of a capture.
abbrev pub SendsCase : (Case → Meeting → Type 0) → SendPlan → Case → Result Exit Fault → Device → Device → Type 0
SendsCase Meets plan case (Ok Done) output faults = (transcript : Transcript) × Meets case (Ran transcript)
    × WritesRun plan transcript output
    × HintsRun plan.capture plan.run.expected (tested_role plan.run.tested) transcript faults
SendsCase Meets plan case (Ok Damaged) output faults = (refusal : HeadRefusal) × Meets case (Refused refusal)
    × Tells (refused_lines refusal) faults × IsUntouched output
SendsCase Meets plan case (Ok Failed) output faults =
    ((output.failed ≡ true) × HasBegunRun Meets plan case output × IsUntouched faults)
    ⊎ ((reason : ConnectFault) × Meets case (NoConnection reason)
    × TellsEach (missed_notes plan.run.tested reason) faults × MayHaveLines plan reason output)
SendsCase Meets plan case (Ok WrongWords) output faults = ⊥
SendsCase Meets plan case (Err fault) output faults =
    (fault ≡ NoMemory) × IsUntouched faults × ((plan.capture ≡ true) → IsUntouched output)

-- so over this end
abbrev pub SendsCaseOver : TestedEnd → SendPlan → Case → Result Exit Fault → Device → Device → Type 0
SendsCaseOver (Memory end) plan case ended output faults =
    SendsCase (MeetsInMemory end plan.run.key) plan case ended output faults
SendsCaseOver (Server target) plan case ended output faults =
    SendsCase (MeetsAs plan.capture (MeetsAtTarget target plan.run) (ShowsTarget target plan.run)) plan case ended
    output faults
SendsCaseOver (Clients address) plan case ended output faults = SendsAt address.now plan case ended output faults

-- ---- the script

-- what stops a text that is damaged at this line: what is wrong there is told, or memory ran out for it
abbrev pub IsDamageFault : List ℕ → ℕ → Fault → Type 0
IsDamageFault text line fault = (fault ≡ NotAStep line (step_damage text line)) ⊎ (fault ≡ NoMemory)

-- what stops a text that is no script
abbrev pub IsScriptFault : List ℕ → TextFault → Fault → Type 0
IsScriptFault text (text_fault.Damaged line) fault = IsDamageFault text line fault
IsScriptFault text text_fault.NoMemory fault = fault ≡ NoMemory

-- A script is sent behind the remarks on it; or memory ran out for them, and nothing was written or told.
abbrev pub SendsNoted : SendPlan → Case → List ℕ → Result Exit Fault → Device → Device → Type 0
SendsNoted plan case text ended output faults =
    ((first : Device) × GoesBefore first faults × NotesCodes text first
    × SendsCaseOver plan.run.tested plan case ended output (record faults { old = first.new }))
    ⊎ ((ended ≡ Err NoMemory) × IsUntouched output × IsUntouched faults)

-- a text is a script, which is sent; or it is none, and nothing was written or told
abbrev pub SendsText : SendPlan → List ℕ → Result Exit Fault → Device → Device → Type 0
SendsText plan text ended output faults =
    ((case : Case) × IsScriptText case text × SendsNoted plan case text ended output faults)
    ⊎ ((damage : TextFault) × Damages IsTextOfScript damage text
    × ((fault : Fault) × IsScriptFault text damage fault × (ended ≡ Err fault))
    × IsUntouched output × IsUntouched faults)

-- so of the input; or it could not be read, and nothing was written or told
abbrev pub SendsInput : SendPlan → Result Exit Fault → Device → Device → Device → Type 0
SendsInput plan ended input output faults =
    ((text : List ℕ) × ReadsAll text input × SendsText plan text ended output faults)
    ⊎ ((stop : ReadStop) × StopsReading stop input × (ended ≡ stopped stop) × IsUntouched output × IsUntouched faults)

-- the plan is carried out over its end, and how that ended is told behind what was told before
abbrev pub SendsOver : SendPlan → Exit → Device → Device → Device → Type 0
SendsOver plan exit input output faults =
    EndsBehind (λ ended first. SendsInput plan ended input output first) exit faults
