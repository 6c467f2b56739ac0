-- Reading an input whose lines are taken as they are read.
use Rattle.std.specs.Prelude.{◌≡◌, ℕ, ⊤, false, List, ◌++◌, Result, MatchResult}
use Rattle.ws_base.specs.declared.text_fault.TextFault.{TextFault}
use Rattle.ws_base.specs.declared.text_fault.TextFault.TheVariants.{Damaged, NoMemory}
use Rattle.ws_formats.specs.Lines.{Damages, HasLineForEach}
use Rattle.ws_frame.specs.Devices.{Device, HasRead}
use Rattle.ws_text_feed.specs.Feeding.{IsFed}
use Rattle.ws_text_feed.specs.declared.feeding.TextFeed.{TextFeed}
use Rattle.wst_commands.specs.ReadingWhole.{ReadsAll, StopsReading}
use Rattle.wst_commands.specs.declared.reading_lines.InputFault.{InputFault}
use Rattle.wst_commands.specs.declared.reading_lines.InputFault.TheVariants.{Text, Stop}
use Rattle.wst_commands.specs.declared.reading_whole.ReadStop.{ReadStop}
use Rattle.wst_commands.specs.declared.reading_whole.ReadStop.TheVariants as stop

-- it names a line: where memory lacks none is damaged
abbrev pub NamesLine : TextFault → Type 0
NamesLine (Damaged number) = ⊤
NamesLine NoMemory = ⊥

-- Why a text was not taken: the reading stopped, as it does once memory lacks; or all was read, and a line of it is
-- damaged, where `Damage fault text` says which fault damages which text.
abbrev pub FailsInput : (TextFault → List ℕ → Type 0) → InputFault → Device → Type 0
FailsInput Damage (Stop stop) input = StopsReading stop input
FailsInput Damage (Text fault) input = (text : List ℕ) × ReadsAll text input × Damage fault text × NamesLine fault

-- what ends the reading at a fault: that of a line as it is, and want of memory as that
abbrev pub input_fault : TextFault → InputFault
input_fault (Damaged number) = Text (Damaged number)
input_fault NoMemory = Stop stop.NoMemory

-- the whole input was read, and the values that its lines tell were taken; or it failed
abbrev pub TakesInput : {S T : Type 0} → (T → List ℕ → Type 0) → (S → List T → S → Type 0) → S → Result S InputFault
    → Device → Type 0
TakesInput {T = T} IsLineOf HasTaken first ended input = MatchResult ended
    (λ now. (text : List ℕ) × ReadsAll text input
    × ((values : List T) × HasLineForEach IsLineOf values text × HasTaken first values now))
    (λ fault. FailsInput (Damages (HasLineForEach IsLineOf)) fault input)

-- ---- inside: the two loops

-- these bytes were read, and a text that begins with them is damaged so
pub record DamagesRead {T : Type 0} (IsLineOf : T → List ℕ → Type 0) (fault : TextFault) (input : Device)
    : Type 0 where
  pub read : List ℕ
  pub bytes : HasRead read input
  pub works : input.failed ≡ false
  pub damages : (more : List ℕ) → Damages (HasLineForEach IsLineOf) fault (read ++ more)

-- why not all of an input was fed
abbrev pub FailsFeeding : {T : Type 0} → (T → List ℕ → Type 0) → InputFault → Device → Type 0
FailsFeeding IsLineOf (Stop stop) input = StopsReading stop input
FailsFeeding IsLineOf (Text fault) input = DamagesRead IsLineOf fault input × NamesLine fault

-- the whole input was fed; or that failed
abbrev pub FeedsInput : {S T Done : Type 0} → (T → List ℕ → Type 0) → (S → List T → S → Type 0) → S → TextFeed S
    → Result Done InputFault → Device → Type 0
FeedsInput IsLineOf HasTaken first feed ended input = MatchResult ended
    (λ done. (text : List ℕ) × ReadsAll text input × IsFed IsLineOf HasTaken first text feed)
    (λ fault. FailsFeeding IsLineOf fault input)

-- the rest was read, and the reader is at its end; or the reading stopped
abbrev pub DropsRest : {Done : Type 0} → Result Done ReadStop → Device → Type 0
DropsRest ended input = MatchResult ended (λ done. (rest : List ℕ) × ReadsAll rest input)
    (λ stop. StopsReading stop input)
