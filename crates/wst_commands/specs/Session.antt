-- A run of `session`: a script of calls is read whole, its calls are made at one endpoint, and its answers are told.
use Rattle.std.specs.Prelude.{◌≡◌, ◌⊎◌, ℕ, Bool, true, false, List, Result, Err, MatchBool, MatchResult}
use Rattle.ws_formats.specs.Lines.{Damages}
use Rattle.ws_base.specs.declared.text_fault.TextFault.{TextFault}
use Rattle.ws_base.specs.declared.text_fault.TextFault.TheVariants as text
use Rattle.ws_frame.specs.Devices.{Device, IsUntouched}
use Rattle.ws_session.specs.Limits.{LimitsValue, AreLimits}
use Rattle.ws_calls.specs.Script.{AreCallLines, AreEchoCallLines}
use Rattle.ws_calls.specs.Runs.{TellsEcho, TellsSession}
use Rattle.wst_words.specs.declared.session.SessionOptions.{SessionOptions}
use Rattle.wst_commands.specs.Devices.{Delivers}
use Rattle.wst_commands.specs.Limits.{limits_given}
use Rattle.wst_commands.specs.ReadingWhole.{AnswersInput, ReadsAll}
use Rattle.wst_commands.specs.declared.exit.Exit.{Exit}
use Rattle.wst_commands.specs.declared.exit.Exit.TheVariants.{Done}
use Rattle.wst_commands.specs.declared.fault.Fault.{Fault}
use Rattle.wst_commands.specs.declared.fault.Fault.TheVariants.{BadLimits, NotACall, NoMemory}

-- the text is a script, and these are the lines of the report of its calls at the endpoint that the words ask for
abbrev pub TellsCalls : SessionOptions → LimitsValue → List ℕ → List ℕ → Type 0
TellsCalls options limits text lines =
    MatchBool options.echo (TellsEcho options.role limits text lines) (TellsSession options.role limits text lines)

-- what is wrong with a text as a script of calls, at an echo or not
abbrev pub DamagesCalls : Bool → TextFault → List ℕ → Type 0
DamagesCalls true fault text = Damages AreEchoCallLines fault text
DamagesCalls false fault text = Damages AreCallLines fault text

-- the whole input was read, and these are the lines of its script
abbrev pub TellsInput : SessionOptions → LimitsValue → List ℕ → Device → Type 0
TellsInput options limits lines input = (text : List ℕ) × ReadsAll text input × TellsCalls options limits text lines

-- what is told of a script whose calls can't be made
abbrev pub call_fault : TextFault → Fault
call_fault (text.Damaged number) = NotACall number
call_fault text.NoMemory = NoMemory

-- what is done with a text: as a script its calls are made, and the lines are written; else nothing is written, and
-- what is wrong is told
abbrev pub AnswersCalls : SessionOptions → LimitsValue → List ℕ → Result Exit Fault → Device → Type 0
AnswersCalls options limits text ended output = MatchResult ended
    (λ exit. (lines : List ℕ) × TellsCalls options limits text lines × Delivers Done lines exit output)
    (λ fault. (cause : TextFault) × DamagesCalls options.echo cause text × (fault ≡ call_fault cause)
    × IsUntouched output)

-- a run of `session`: limits that an endpoint can't have are told, and nothing is read or written
abbrev pub RunsSession : SessionOptions → Result Exit Fault → Device → Device → Type 0
RunsSession options ended input output =
    (AreLimits (limits_given options.limit options.frame)
    × AnswersInput (AnswersCalls options (limits_given options.limit options.frame)) ended input output)
    ⊎ (¬ (AreLimits (limits_given options.limit options.frame)) × (ended ≡ Err BadLimits) × IsUntouched input
    × IsUntouched output)
