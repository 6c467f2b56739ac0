-- What a run of the program leaves: what its words ask for is done, or it is told what is wrong with them.
use Rattle.std.specs.Prelude.{◌≡◌, ◌⊎◌, true, false, List, Result}
use Rattle.clap.specs.Words.{App, Text, kind_of}
use Rattle.clap.specs.declared.error.kind.ErrorKind.{ErrorKind}
use Rattle.clap.specs.declared.error.kind.ErrorKind.TheVariants.{DisplayHelp, DisplayVersion, OutOfMemory}
use Rattle.ws_frame.specs.Devices.{Device, IsUntouched}
use Rattle.wst_words.specs.Words.{AsksFor, RefusesWords}
use Rattle.wst_words.specs.declared.words.Task.{Task}
use Rattle.wst_words.specs.declared.words.Task.TheVariants.{Cases, Convert, Head, Judge, Pair, Report, Serve}
use Rattle.wst_words.specs.declared.words.Task.TheVariants.{Send, Session, Show, Sweep, Tap, Test}
use Rattle.wst_words.specs.declared.words.WordsFault.{WordsFault}
use Rattle.wst_words.specs.declared.words.WordsFault.TheVariants as words
use Rattle.wst_commands.specs.Cases.{ListsCases}
use Rattle.wst_commands.specs.Convert.{RunsConvert}
use Rattle.wst_commands.specs.Faults.{Ends, TellsFault}
use Rattle.wst_commands.specs.Judge.{RunsJudge}
use Rattle.wst_commands.specs.Pairs.{RunsPair}
use Rattle.wst_commands.specs.Report.{RunsReport}
use Rattle.wst_run.specs.SendNoted.{RunsSend}
use Rattle.wst_services.specs.Head.{RunsHead}
use Rattle.wst_services.specs.Serve.{RunsServe}
use Rattle.wst_run.specs.Sweep.{RunsSweep}
use Rattle.wst_run.specs.Tap.{RunsTap}
use Rattle.wst_commands.specs.Session.{RunsSession}
use Rattle.wst_commands.specs.Show.{RunsShow}
use Rattle.wst_run.specs.Test.{RunsTest}
use Rattle.wst_commands.specs.declared.exit.Exit.{Exit}
use Rattle.wst_commands.specs.declared.exit.Exit.TheVariants.{Done, WrongWords, Failed}
use Rattle.wst_commands.specs.declared.fault.Fault.{Fault}
use Rattle.wst_commands.specs.declared.fault.Fault.TheVariants as fault

-- a command was run so, and how it ended is told
abbrev pub RunsCommand : (Result Exit Fault → Type 0) → Exit → Device → Type 0
RunsCommand Does exit faults = (ended : Result Exit Fault) × Does ended × Ends ended exit faults

-- what was asked for is done, and how that ended is told
abbrev pub RunsTask : Task → Exit → Device → Device → Device → Type 0
RunsTask (Show options) exit input output faults =
    RunsCommand (λ ended. RunsShow options ended input output) exit faults
RunsTask (Pair options) exit input output faults =
    RunsCommand (λ ended. RunsPair options ended input output) exit faults
RunsTask (Head options) exit input output faults =
    RunsCommand (λ ended. RunsHead options ended input output) exit faults
RunsTask (Session options) exit input output faults =
    RunsCommand (λ ended. RunsSession options ended input output) exit faults
RunsTask (Judge options) exit input output faults =
    RunsCommand (λ ended. RunsJudge options ended input output) exit faults
RunsTask (Convert options) exit input output faults =
    RunsCommand (λ ended. RunsConvert options ended input output) exit faults
RunsTask (Cases options) exit input output faults = IsUntouched input × ListsCases options exit output faults
RunsTask (Test options) exit input output faults = RunsTest options exit input output faults
RunsTask (Send options) exit input output faults = RunsSend options exit input output faults
RunsTask (Sweep options) exit input output faults = IsUntouched input × RunsSweep options exit output faults
RunsTask (Report options) exit input output faults =
    RunsCommand (λ ended. RunsReport options ended input output) exit faults
RunsTask (Serve options) exit input output faults = IsUntouched input × RunsServe options exit output faults
RunsTask (Tap options) exit input output faults = IsUntouched input × RunsTap options exit output faults

-- help and the version go to the output, which is done exactly where no write to it failed
abbrev pub TellsHelp : Exit → Device → Device → Type 0
TellsHelp exit output faults =
    (((exit ≡ Done) × (output.failed ≡ false)) ⊎ ((exit ≡ Failed) × (output.failed ≡ true))) × IsUntouched faults

-- what is told at an error of clap: want of memory, help or the version, or else what is wrong with the words; then
-- nothing is written
abbrev pub TellsOf : ErrorKind → Exit → Device → Device → Type 0
TellsOf OutOfMemory exit output faults = IsUntouched output × TellsFault fault.NoMemory exit faults
TellsOf DisplayHelp exit output faults = TellsHelp exit output faults
TellsOf DisplayVersion exit output faults = TellsHelp exit output faults
TellsOf _ exit output faults = (exit ≡ WrongWords) × IsUntouched output

-- what is told of words that give no task
abbrev pub AnswersWords : WordsFault → Exit → Device → Device → Type 0
AnswersWords (words.Clap error) exit output faults = TellsOf (kind_of error) exit output faults
AnswersWords words.NoTask exit output faults = IsUntouched output × TellsFault fault.NoTask exit faults

-- the words give no task, which is told, and nothing was read
abbrev pub RefusesRun : App → List Text → Exit → Device → Device → Device → Type 0
RefusesRun app words exit input output faults = (refused : WordsFault) × RefusesWords app words refused
    × IsUntouched input × AnswersWords refused exit output faults

-- what the words ask for was done; or they give no task
abbrev pub Runs : App → List Text → Exit → Device → Device → Device → Type 0
Runs app words exit input output faults =
    ((task : Task) × AsksFor app words task × RunsTask task exit input output faults)
    ⊎ RefusesRun app words exit input output faults
