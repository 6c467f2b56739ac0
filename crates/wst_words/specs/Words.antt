-- What the words of a command line ask for: the program's commands, and clap's own reading of the words by them.
use Rattle.std.specs.Prelude.{◌≡◌, true, List, [], ◌∷◌, Option, Some, None, Result, MatchResult, codes, map}
use Rattle.clap.specs.Words.{App, HasKind, Row, Text, fault_of, new_app, subcommand_of}
use Rattle.clap.specs.Simple.{on_top}
use Rattle.clap.specs.declared.error.Error.{Error}
use Rattle.wst_words.specs.Arguments.{Places, name_parsers}
use Rattle.wst_words.specs.Cases.{AsksForCases, cases_command}
use Rattle.wst_words.specs.Commands.{CommandRow, with_commands}
use Rattle.wst_words.specs.Convert.{AsksToConvert, convert_command}
use Rattle.wst_words.specs.Head.{AsksForHead, head_command}
use Rattle.wst_words.specs.Judge.{AsksToJudge, judge_command}
use Rattle.wst_words.specs.Pair.{AsksToPair, pair_command}
use Rattle.wst_words.specs.Report.{AsksToReport, report_command}
use Rattle.wst_words.specs.Send.{AsksToSend, send_command}
use Rattle.wst_words.specs.Serve.{AsksToServe, serve_command}
use Rattle.wst_words.specs.Session.{AsksForSession, session_command}
use Rattle.wst_words.specs.Show.{AsksToShow, show_command}
use Rattle.wst_words.specs.Sweep.{AsksToSweep, sweep_command}
use Rattle.wst_words.specs.Tap.{AsksToTap, tap_command}
use Rattle.wst_words.specs.Test.{AsksToTest, test_command}
use Rattle.wst_words.specs.declared.commands.CommandName.{CommandName}
use Rattle.wst_words.specs.declared.commands.CommandName.TheVariants as name
use Rattle.wst_words.specs.declared.words.Task.{Task}
use Rattle.wst_words.specs.declared.words.Task.TheVariants.{Cases, Convert, Head, Judge, Pair, Report, Serve}
use Rattle.wst_words.specs.declared.words.Task.TheVariants.{Send, Session, Show, Sweep, Tap, Test}
use Rattle.wst_words.specs.declared.words.WordsFault.{WordsFault}
use Rattle.wst_words.specs.declared.words.WordsFault.TheVariants.{Clap, NoTask}

-- ---- the commands

-- each command
abbrev pub row_of : CommandName → CommandRow
row_of name.Show = show_command
row_of name.Head = head_command
row_of name.Pair = pair_command
row_of name.Session = session_command
row_of name.Judge = judge_command
row_of name.Convert = convert_command
row_of name.Cases = cases_command
row_of name.Test = test_command
row_of name.Send = send_command
row_of name.Sweep = sweep_command
row_of name.Report = report_command
row_of name.Serve = serve_command
row_of name.Tap = tap_command

-- the commands, in the order in which help lists them
abbrev pub all_commands : List CommandRow
all_commands = map row_of (name.Show ∷ name.Head ∷ name.Pair ∷ name.Session ∷ name.Judge ∷ name.Convert ∷ name.Cases
    ∷ name.Test ∷ name.Send ∷ name.Sweep ∷ name.Report ∷ name.Serve ∷ name.Tap ∷ [])

-- `wst` itself: a command may not be left out, and there is a version
abbrev pub bare_app : App
bare_app = on_top (λ s. record s { subcommand_required = true; has_version = true }) (new_app (codes "wst"))

-- `wst` with its commands
abbrev pub wst_app : Places → App
wst_app places = with_commands (name_parsers places) bare_app all_commands

-- ---- what the words ask for

-- the command and its options ask for this task
abbrev pub CommandAsks : Option (Text × List Row) → Task → Type 0
CommandAsks None task = ⊥
CommandAsks (Some (name, rows)) (Show options) = (name ≡ codes "show") × AsksToShow rows options
CommandAsks (Some (name, rows)) (Pair options) = (name ≡ codes "pair") × AsksToPair rows options
CommandAsks (Some (name, rows)) (Head options) = (name ≡ codes "head") × AsksForHead rows options
CommandAsks (Some (name, rows)) (Session options) = (name ≡ codes "session") × AsksForSession rows options
CommandAsks (Some (name, rows)) (Judge options) = (name ≡ codes "judge") × AsksToJudge rows options
CommandAsks (Some (name, rows)) (Convert options) = (name ≡ codes "convert") × AsksToConvert rows options
CommandAsks (Some (name, rows)) (Cases options) = (name ≡ codes "cases") × AsksForCases rows options
CommandAsks (Some (name, rows)) (Test options) = (name ≡ codes "test") × AsksToTest rows options
CommandAsks (Some (name, rows)) (Send options) = (name ≡ codes "send") × AsksToSend rows options
CommandAsks (Some (name, rows)) (Sweep options) = (name ≡ codes "sweep") × AsksToSweep rows options
CommandAsks (Some (name, rows)) (Report options) = (name ≡ codes "report") × AsksToReport rows options
CommandAsks (Some (name, rows)) (Serve options) = (name ≡ codes "serve") × AsksToServe rows options
CommandAsks (Some (name, rows)) (Tap options) = (name ≡ codes "tap") × AsksToTap rows options

-- and they ask for none
abbrev pub CommandAsksNothing : Option (Text × List Row) → Type 0
CommandAsksNothing command = (task : Task) → CommandAsks command task → ⊥

-- the words are without fault and ask for this task
abbrev pub AsksFor : App → List Text → Task → Type 0
AsksFor app words task = (fault_of app words ≡ []) × CommandAsks (subcommand_of app words) task

-- the words are without fault and ask for no task
abbrev pub AsksForNothing : App → List Text → Type 0
AsksForNothing app words = (fault_of app words ≡ []) × CommandAsksNothing (subcommand_of app words)

-- the fault is clap's error, of which this holds
abbrev pub IsOfClap : (Error → Type 0) → WordsFault → Type 0
IsOfClap P (Clap error) = P error
IsOfClap P NoTask = ⊥

-- why there is no task: an error of a kind that clap's reading gives, or want of memory; or the words ask for nothing
abbrev pub RefusesWords : App → List Text → WordsFault → Type 0
RefusesWords app words (Clap error) = HasKind (fault_of app words) error
RefusesWords app words NoTask = AsksForNothing app words

-- the task that the words ask for, or why there is none
abbrev pub IsRead : App → List Text → Result Task WordsFault → Type 0
IsRead app words r = MatchResult r (AsksFor app words) (RefusesWords app words)
