-- A run of `judge`: a capture is read whole and judged, and the verdict is written.
use Rattle.std.specs.Prelude.{◌≡◌, ◌⊎◌, ℕ, nat_lt, Bool, false, ◌&&◌, List, [], ◌∷◌, ◌++◌, Option, Some, None}
use Rattle.std.specs.Prelude.{Result, Ok, Err, MatchResult, codes, if◌then◌else◌}
use Rattle.ws_frame.specs.Devices.{Device, IsUntouched}
use Rattle.ws_frame.specs.declared.source.DataStyle.{DataStyle}
use Rattle.ws_scripts.specs.Captures.{DamagesCapture}
use Rattle.ws_scripts.specs.Captures2.{IsAnyCaptureOf}
use Rattle.ws_suite.specs.Protocol.{IsVerdictBy}
use Rattle.ws_scripts.specs.declared.expectation.Expectation.{Expectation}
use Rattle.ws_wire.specs.declared.role.Role.{Role}
use Rattle.ws_wire.specs.declared.role.Role.TheVariants.{Client, Server}
use Rattle.ws_suite.specs.Words.{verdict_words}
use Rattle.ws_scripts.specs.declared.capture.Capture.{Capture}
use Rattle.ws_scripts.specs.declared.capture.CaptureFault.{CaptureFault}
use Rattle.ws_scripts.specs.declared.capture.CaptureFault.TheVariants as capture
use Rattle.ws_scripts.specs.declared.transcript.Transcript.{Transcript}
use Rattle.ws_scripts.specs.declared.transcript.Turn.{Turn}
use Rattle.ws_suite.specs.declared.verdict.Verdict.{Verdict}
use Rattle.ws_suite.specs.declared.verdict.Verdict.TheVariants.{Fail, Loose, Pass}
use Rattle.wst_words.specs.declared.judge.JudgeOptions.{JudgeOptions}
use Rattle.wst_commands.specs.Devices.{Delivers}
use Rattle.wst_commands.specs.Explaining.{StandsBelow}
use Rattle.wst_commands.specs.ReadingWhole.{AnswersInput}
use Rattle.wst_commands.specs.declared.exit.Exit.{Exit}
use Rattle.wst_commands.specs.declared.exit.Exit.TheVariants.{Damaged, Done, Failed, WrongWords}
use Rattle.wst_commands.specs.declared.fault.Fault.{Fault}
use Rattle.wst_commands.specs.declared.fault.Fault.TheVariants.{CaptureOfClient, CaptureOfServer, NotACapture}
use Rattle.wst_commands.specs.declared.fault.Fault.TheVariants.{NoMemory}

-- the verdict in its line
abbrev pub verdict_line : Verdict → List ℕ
verdict_line verdict = verdict_words verdict ++ codes "\n"

-- a broken rule has a status of its own
abbrev pub exit_of : Verdict → Exit
exit_of Pass = Done
exit_of (Loose why) = Done
exit_of (Fail why) = Damaged

-- in which style it is told why, where that is asked for
abbrev pub explained_in : JudgeOptions → Option DataStyle
explained_in options = if options.explain then Some options.style else None

-- the verdict on the tested end by the transcript was written, and below it why it is told where that is asked for; or
-- memory ran out, and nothing was written
abbrev pub WritesVerdict : JudgeOptions → Transcript → Result Exit Fault → Device → Type 0
WritesVerdict options transcript ended output = MatchResult ended
    (λ exit. (verdict : Verdict) × (below : List ℕ) × IsVerdictBy options.expect options.role transcript verdict
    × StandsBelow (explained_in options) options.role options.expect transcript verdict below
    × Delivers (exit_of verdict) (verdict_line verdict ++ below) exit output)
    (λ fault. (fault ≡ NoMemory) × IsUntouched output)

-- a frame begins here, and its header says that it is masked
abbrev pub begins_masked : List ℕ → Bool
begins_masked (first ∷ second ∷ rest) = nat_lt 127 second
begins_masked _ = false

-- or that it is not
abbrev pub begins_unmasked : List ℕ → Bool
begins_unmasked (first ∷ second ∷ rest) = nat_lt second 128
begins_unmasked _ = false

-- the end that was tested by the first frames of a turn: a client masks its own, and the tester, a server, doesn't; or
-- the other way round
abbrev pub end_tested_in : Turn → Option Role
end_tested_in turn = if begins_masked turn.got && begins_unmasked turn.sent then Some Client
    else (if begins_unmasked turn.got && begins_masked turn.sent then Some Server else None)

-- by the first turn
abbrev pub end_tested : List Turn → Option Role
end_tested [] = None
end_tested (turn ∷ turns) = end_tested_in turn

-- how a run ends that has written a Fail of this end, where that was tested: of the other one a hint says so
abbrev pub failed_as : Role → Option Role → Result Exit Fault
failed_as Server (Some Client) = Err CaptureOfClient
failed_as Client (Some Server) = Err CaptureOfServer
failed_as Server (Some Server) = Ok Damaged
failed_as Server None = Ok Damaged
failed_as Client (Some Client) = Ok Damaged
failed_as Client None = Ok Damaged

abbrev pub failed_verdict : Role → Transcript → Result Exit Fault
failed_verdict tested transcript = failed_as tested (end_tested transcript.turns)

-- the same by the exit of what was written
abbrev pub ended_verdict : Role → Transcript → Exit → Result Exit Fault
ended_verdict tested transcript Damaged = failed_verdict tested transcript
ended_verdict tested transcript Done = Ok Done
ended_verdict tested transcript WrongWords = Ok WrongWords
ended_verdict tested transcript Failed = Ok Failed

-- the verdict was written so, and the run ended by that; or memory ran out, and nothing was written
abbrev pub TellsVerdict : JudgeOptions → Transcript → Result Exit Fault → Device → Type 0
TellsVerdict options transcript ended output =
    ((exit : Exit) × WritesVerdict options transcript (Ok exit) output
    × (ended ≡ ended_verdict options.role transcript exit))
    ⊎ ((ended ≡ Err NoMemory) × IsUntouched output)

-- inside: the same by what is asked for
abbrev pub TellsVerdictWith : Option DataStyle → Role → Expectation → Transcript → Result Exit Fault → Device → Type 0
TellsVerdictWith explains tested expected transcript ended output = MatchResult ended
    (λ exit. (verdict : Verdict) × (below : List ℕ) × IsVerdictBy expected tested transcript verdict
    × StandsBelow explains tested expected transcript verdict below
    × Delivers (exit_of verdict) (verdict_line verdict ++ below) exit output)
    (λ fault. (fault ≡ NoMemory) × IsUntouched output)

-- inside: this verdict was written in its line, and these lines below it
abbrev pub TellsJudged : Verdict → List ℕ → Result Exit Fault → Device → Type 0
TellsJudged verdict below ended output =
    MatchResult ended (λ exit. Delivers (exit_of verdict) (verdict_line verdict ++ below) exit output)
    (λ fault. (fault ≡ NoMemory) × IsUntouched output)

-- what is told of a text that is no capture
abbrev pub capture_fault : CaptureFault → Fault
capture_fault (capture.Damaged number) = NotACapture number
capture_fault capture.NoMemory = NoMemory

-- what is done with a text: as a capture, in either format, it is judged; else nothing is written, and what is wrong is
-- told
abbrev pub AnswersCapture : JudgeOptions → List ℕ → Result Exit Fault → Device → Type 0
AnswersCapture options text ended output =
    ((capture : Capture) × IsAnyCaptureOf capture text × TellsVerdict options capture.transcript ended output)
    ⊎ ((fault : CaptureFault) × DamagesCapture IsAnyCaptureOf fault text × (ended ≡ Err (capture_fault fault))
    × IsUntouched output)

-- a run of `judge`
abbrev pub RunsJudge : JudgeOptions → Result Exit Fault → Device → Device → Type 0
RunsJudge options ended input output = AnswersInput (AnswersCapture options) ended input output
