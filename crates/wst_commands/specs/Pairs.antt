-- A run of `pair`: a script of moves is read whole and played at two joined sessions, and what came of it is reported.
use Rattle.std.specs.Prelude.{◌≡◌, ◌⊎◌, ℕ, List, Result, Err, MatchResult}
use Rattle.ws_formats.specs.Lines.{Damages}
use Rattle.ws_base.specs.declared.text_fault.TextFault.{TextFault}
use Rattle.ws_base.specs.declared.text_fault.TextFault.TheVariants as text
use Rattle.ws_frame.specs.Devices.{Device, IsUntouched}
use Rattle.ws_session.specs.Limits.{LimitsValue, AreLimits}
use Rattle.ws_pair.specs.declared.moves.Move.{Move}
use Rattle.ws_pair.specs.declared.report.Report.{Report}
use Rattle.ws_pair.specs.Headline.{IsReportOf}
use Rattle.ws_pair.specs.ReportLines.{report_lines}
use Rattle.ws_pair.specs.Script.{AreMoveLines}
use Rattle.wst_words.specs.declared.pair.PairOptions.{PairOptions}
use Rattle.wst_commands.specs.Devices.{Delivers}
use Rattle.wst_commands.specs.Limits.{limits_given}
use Rattle.wst_commands.specs.ReadingWhole.{AnswersInput}
use Rattle.wst_commands.specs.declared.exit.Exit.{Exit}
use Rattle.wst_commands.specs.declared.exit.Exit.TheVariants.{Done}
use Rattle.wst_commands.specs.declared.fault.Fault.{Fault}
use Rattle.wst_commands.specs.declared.fault.Fault.TheVariants.{BadLimits, NotAMove, NoMemory}

-- both ends can have the limits that the words give
abbrev pub CanLimit : PairOptions → Type 0
CanLimit options = AreLimits (limits_given options.limit_client options.frame_client)
    × AreLimits (limits_given options.limit_server options.frame_server)

-- the moves were played, and the lines of their report were written; or memory ran out, and nothing was written
abbrev pub PlaysMoves : LimitsValue → LimitsValue → List Move → Result Exit Fault → Device → Type 0
PlaysMoves client server moves ended output = MatchResult ended
    (λ exit. (report : Report) × IsReportOf client server moves report
    × Delivers Done (report_lines report) exit output)
    (λ fault. (fault ≡ NoMemory) × IsUntouched output)

-- the lines of the report were written; or memory ran out, and nothing was written
abbrev pub TellsReport : Report → Result Exit Fault → Device → Type 0
TellsReport report ended output = MatchResult ended (λ exit. Delivers Done (report_lines report) exit output)
    (λ fault. (fault ≡ NoMemory) × IsUntouched output)

-- what is told of a script that can't be played
abbrev pub script_fault : TextFault → Fault
script_fault (text.Damaged number) = NotAMove number
script_fault text.NoMemory = NoMemory

-- what is done with a text: as a script its moves are played; else nothing is written, and what is wrong is told
abbrev pub AnswersScript : LimitsValue → LimitsValue → List ℕ → Result Exit Fault → Device → Type 0
AnswersScript client server text ended output =
    ((moves : List Move) × AreMoveLines moves text × PlaysMoves client server moves ended output)
    ⊎ ((fault : TextFault) × Damages AreMoveLines fault text × (ended ≡ Err (script_fault fault)) × IsUntouched output)

-- a run of `pair`: limits that an end can't have are told, and nothing is read or written
abbrev pub RunsPair : PairOptions → Result Exit Fault → Device → Device → Type 0
RunsPair options ended input output =
    (CanLimit options
    × AnswersInput (AnswersScript (limits_given options.limit_client options.frame_client)
    (limits_given options.limit_server options.frame_server)) ended input output)
    ⊎ (¬ (CanLimit options) × (ended ≡ Err BadLimits) × IsUntouched input × IsUntouched output)
