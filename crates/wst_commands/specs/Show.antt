-- A run of `show`: the frames of a stream are shown as they come, or a capture is read whole and shown turn by turn.
use Rattle.std.specs.Prelude.{◌≡◌, ◌⊎◌, ℕ, Bool, true, false, List, Option, Some, None, Result, Ok, Err}
use Rattle.ws_wire.specs.declared.role.Role.{Role}
use Rattle.ws_wire.specs.declared.role.Role.TheVariants.{Server}
use Rattle.ws_frame.specs.Devices.{Device, IsUntouched}
use Rattle.ws_frame.specs.Lines.{Shows, IsFairEnd, alone, takes_memory}
use Rattle.ws_frame.specs.declared.source.DataStyle.{DataStyle}
use Rattle.ws_frame.specs.declared.source.Source.{Source}
use Rattle.ws_frame.specs.declared.showing.ShowEnd.{ShowEnd}
use Rattle.ws_frame.specs.declared.showing.ShowEnd.TheVariants as end
use Rattle.ws_faults.specs.declared.marking.MarkedFrames.{MarkedFrames}
use Rattle.ws_faults.specs.PayloadFaults.{AreMarkedFrames}
use Rattle.ws_lines.specs.declared.transcript_lines.Showing.{Showing}
use Rattle.ws_lines.specs.Telling.{HasBegunLines, HasWrittenLines}
use Rattle.ws_lines.specs.TurnLines.{FitsPlaces}
use Rattle.ws_scripts.specs.Captures.{DamagesCapture}
use Rattle.ws_scripts.specs.Captures2.{IsAnyCaptureOf}
use Rattle.ws_scripts.specs.declared.capture.Capture.{Capture}
use Rattle.ws_scripts.specs.declared.capture.CaptureFault.{CaptureFault}
use Rattle.ws_scripts.specs.declared.transcript.Transcript.{Transcript}
use Rattle.wst_words.specs.declared.show.ShowOptions.{ShowOptions}
use Rattle.wst_commands.specs.Judge.{capture_fault}
use Rattle.wst_commands.specs.ReadingWhole.{AnswersInput}
use Rattle.wst_commands.specs.declared.exit.Exit.{Exit}
use Rattle.wst_commands.specs.declared.exit.Exit.TheVariants.{Done, Damaged, Failed}
use Rattle.wst_commands.specs.declared.fault.Fault.{Fault}
use Rattle.wst_commands.specs.declared.fault.Fault.TheVariants.{NoMemory, RoleWithoutCapture, StreamWithCapture}
use Rattle.wst_commands.specs.declared.show.ShowPlan.{ShowPlan}
use Rattle.wst_commands.specs.declared.show.ShowPlan.TheVariants.{Capture as OfCapture, Stream}

-- ---- what the options ask for

-- the end that an option names, and the server where it is left out
abbrev pub shown_role : Option Role → Role
shown_role (Some role) = role
shown_role None = Server

-- the budget that an option names, and a GiB where it is left out
abbrev pub budget_of : Option ℕ → ℕ
budget_of (Some budget) = budget
budget_of None = 1073741824

-- a stream or a capture; an option of a stream doesn't go with a capture, nor one of a capture without it
abbrev pub plan_by : Bool → Option Role → Option ℕ → Option Role → Result ShowPlan Fault
plan_by false from budget None = Ok (Stream (shown_role from) (budget_of budget))
plan_by false from budget (Some role) = Err RoleWithoutCapture
plan_by true None None role = Ok (OfCapture (shown_role role))
plan_by true (Some from) budget role = Err StreamWithCapture
plan_by true None (Some budget) role = Err StreamWithCapture

abbrev pub show_plan : ShowOptions → Result ShowPlan Fault
show_plan options = plan_by options.capture options.from options.budget options.role

-- ---- a stream

-- how the run ends, by how `show` did
abbrev pub shown : ShowEnd → Result Exit Fault
shown end.Done = Ok Done
shown (end.CutAt _) = Ok Damaged
shown (end.BadLengthAt _) = Ok Damaged
shown end.Budget = Ok Failed
shown end.ReadFault = Ok Failed
shown end.WriteFault = Ok Failed
shown end.NoMemory = Err NoMemory

-- the lines of what was read were written, which devices have failed, and how that ended. Memory runs out only in a
-- style that takes it, as `Shows` says, and so never by the first bytes of payloads.
abbrev pub ShowsStream : Source → ℕ → Result Exit Fault → Device → Device → Type 0
ShowsStream source budget ended input output = (end : ShowEnd) × Shows source budget end input output
    × IsFairEnd end input output × (ended ≡ shown end)

-- ---- a capture

-- The text of lines of the transcript was written; or a write failed, or memory ran out in a style that takes it, and a
-- beginning of it was written. Of a transcript with a place that 64 bits can't tell nothing is written, and it is told
-- as want of memory.
abbrev pub TellsLines : Showing → Transcript → Result Exit Fault → Device → Type 0
TellsLines showing transcript ended output =
    ((ended ≡ Ok Done) × (output.failed ≡ false) × HasWrittenLines showing transcript output)
    ⊎ ((ended ≡ Ok Failed) × (output.failed ≡ true) × HasBegunLines showing transcript output)
    ⊎ ((ended ≡ Err NoMemory) × (output.failed ≡ false) × (takes_memory showing.style ≡ true)
    × HasBegunLines showing transcript output)
    ⊎ ((ended ≡ Err NoMemory) × ¬ (FitsPlaces transcript.turns) × IsUntouched output)

-- how a transcript is shown, with these frames marked
abbrev pub marked_showing : Role → DataStyle → MarkedFrames → Showing
marked_showing tested style marked =
    record { tested = tested; style = style; sent_fault = marked.sent; got_fault = marked.got }

-- The lines of the transcript are told so, with the frame of either direction marked whose payload is its first fault;
-- or memory ran out before that was known, and nothing is written.
abbrev pub TellsMarked : Role → DataStyle → Transcript → Result Exit Fault → Device → Type 0
TellsMarked tested style transcript ended output =
    ((marked : MarkedFrames) × AreMarkedFrames tested transcript marked
    × TellsLines (marked_showing tested style marked) transcript ended output)
    ⊎ ((ended ≡ Err NoMemory) × IsUntouched output)

-- what is done with a text: as a capture, in either format, its lines are written; else nothing is written, and what is
-- wrong is told
abbrev pub AnswersShownCapture : Role → DataStyle → List ℕ → Result Exit Fault → Device → Type 0
AnswersShownCapture tested style text ended output =
    ((capture : Capture) × IsAnyCaptureOf capture text × TellsMarked tested style capture.transcript ended output)
    ⊎ ((fault : CaptureFault) × DamagesCapture IsAnyCaptureOf fault text × (ended ≡ Err (capture_fault fault))
    × IsUntouched output)

-- a capture is read whole
abbrev pub ShowsCapture : Role → DataStyle → Result Exit Fault → Device → Device → Type 0
ShowsCapture tested style ended input output = AnswersInput (AnswersShownCapture tested style) ended input output

-- ---- a run

-- what is planned is shown, with payloads in this style; or nothing is read or written, and what is wrong with the
-- words is told
abbrev pub CarriesOutShow : DataStyle → Result ShowPlan Fault → Result Exit Fault → Device → Device → Type 0
CarriesOutShow style (Ok (Stream from budget)) ended input output =
    ShowsStream (alone from style) budget ended input output
CarriesOutShow style (Ok (OfCapture tested)) ended input output =
    ShowsCapture tested style ended input output
CarriesOutShow style (Err fault) ended input output = (ended ≡ Err fault) × IsUntouched input × IsUntouched output

abbrev pub RunsShow : ShowOptions → Result Exit Fault → Device → Device → Type 0
RunsShow options ended input output = CarriesOutShow options.style (show_plan options) ended input output
