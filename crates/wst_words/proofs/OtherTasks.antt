-- A command one of whose arguments lacks its value asks for nothing: not for a task of its own, and not for one of
-- another command.
use Rattle.std.proofs.Common.{◌≡◌, ◌∙◌, ◌++◌, ◌∷◌, [], List, true, false, ℕ, Option, None, Some, ap, sym, refl, codes, inl, inr}
use Rattle.std.specs.Str.{bytes_eq}
use Rattle.clap.specs.Words.{Row, Text}
use Rattle.wst_words.specs.Cases.{AsksForCases, cases_command}
use Rattle.wst_words.specs.Judge.{AsksToJudge, judge_command}
use Rattle.wst_words.specs.Options.{GivesNoNumberOr, GivesNumberIfAny, LacksOneOf}
use Rattle.wst_words.specs.Pair.{AsksToPair, pair_command}
use Rattle.wst_words.specs.Arguments.{ArgumentRow, argument, argument_or}
use Rattle.wst_words.specs.RunOptions.{AsksForRun, run_arguments_without_timeout}
use Rattle.wst_words.specs.Report.{AsksToReport, report_command}
use Rattle.wst_words.specs.Send.{AsksToSend, send_command}
use Rattle.wst_words.specs.declared.arguments.ArgumentKind.TheVariants.{Flag, Number, Style, Word, Words}
use Rattle.wst_words.specs.Serve.{AsksToServe, serve_command}
use Rattle.wst_words.specs.Session.{AsksForSession, session_command}
use Rattle.wst_words.specs.Show.{AsksToShow, show_command}
use Rattle.wst_words.specs.Sweep.{AsksToSweep, sweep_command}
use Rattle.wst_words.specs.Tap.{AsksToTap, tap_command}
use Rattle.wst_words.specs.Test.{AsksToTest, test_command}
use Rattle.wst_words.specs.Words.{CommandAsks, CommandAsksNothing}
use Rattle.wst_words.specs.declared.cases.CasesOptions.{CasesOptions}
use Rattle.wst_words.specs.declared.judge.JudgeOptions.{JudgeOptions}
use Rattle.wst_words.specs.declared.pair.PairOptions.{PairOptions}
use Rattle.wst_words.specs.declared.report.ReportOptions.{ReportOptions}
use Rattle.wst_words.specs.declared.run_options.RunOptions.{RunOptions}
use Rattle.wst_words.specs.declared.send.SendOptions.{SendOptions}
use Rattle.wst_words.specs.declared.serve.ServeOptions.{ServeOptions}
use Rattle.wst_words.specs.declared.session.SessionOptions.{SessionOptions}
use Rattle.wst_words.specs.declared.show.ShowOptions.{ShowOptions}
use Rattle.wst_words.specs.declared.sweep.SweepOptions.{SweepOptions}
use Rattle.wst_words.specs.declared.tap.TapOptions.{TapOptions}
use Rattle.wst_words.specs.declared.test.TestOptions.{TestOptions}
use Rattle.wst_words.specs.declared.words.Task.{Task}
use Rattle.wst_words.specs.declared.words.Task.TheVariants.{Cases, Convert, Head, Judge, Pair, Serve, Session, Show}
use Rattle.wst_words.specs.declared.words.Task.TheVariants.{Report, Send, Sweep, Tap, Test}
use Rattle.wst_words.proofs.WordLemmas.{no_word}

-- the command that a task is asked for by
abbrev task_name : Task → Text
task_name (Show options) = codes "show"
task_name (Pair options) = codes "pair"
task_name (Head options) = codes "head"
task_name (Session options) = codes "session"
task_name (Judge options) = codes "judge"
task_name (Convert options) = codes "convert"
task_name (Cases options) = codes "cases"
task_name (Test options) = codes "test"
task_name (Send options) = codes "send"
task_name (Sweep options) = codes "sweep"
task_name (Report options) = codes "report"
task_name (Serve options) = codes "serve"
task_name (Tap options) = codes "tap"

called : (name : Text) (rows : List Row) (task : Task) → CommandAsks (Some (name, rows)) task → name ≡ task_name task
called name rows (Show options) asks = asks.0
called name rows (Pair options) asks = asks.0
called name rows (Head options) asks = asks.0
called name rows (Session options) asks = asks.0
called name rows (Judge options) asks = asks.0
called name rows (Convert options) asks = asks.0
called name rows (Cases options) asks = asks.0
called name rows (Test options) asks = asks.0
called name rows (Send options) asks = asks.0
called name rows (Sweep options) asks = asks.0
called name rows (Report options) asks = asks.0
called name rows (Serve options) asks = asks.0
called name rows (Tap options) asks = asks.0

-- a word is no other
differs : (a b name : Text) → bytes_eq a a ≡ true → bytes_eq a b ≡ false → name ≡ a → name ≡ b → ⊥
differs a b name same other is asks =
    let bad : true ≡ false = sym same ∙ ap (λ (t : Text). bytes_eq a t) (sym is ∙ asks) ∙ other in
    absurd (cc)

-- where no number is given, and none left out
no_number_if_any : (rows : List Row) (name : Text) (number : Option ℕ) → GivesNoNumberOr rows name
    → GivesNumberIfAny rows name number → ⊥
no_number_if_any rows name None none left_out = none 0 0 (inr (left_out, refl))
no_number_if_any rows name (Some number) none given = none number number (inl given)

show_lacks : (rows : List Row) (options : ShowOptions) → LacksOneOf rows show_command.arguments
    → AsksToShow rows options → ⊥
show_lacks rows options (inl from) asks = absurd from
show_lacks rows options (inr (inl budget)) asks = no_number_if_any rows (codes "budget") options.budget budget asks.1
show_lacks rows options (inr (inr (inl capture))) asks = capture options.capture asks.2
show_lacks rows options (inr (inr (inr (inl role)))) asks = absurd role
show_lacks rows options (inr (inr (inr (inr (inl shown))))) asks = shown options.style asks.4
show_lacks rows options (inr (inr (inr (inr (inr none))))) asks = absurd none

pub no_show : (name : Text) (rows : List Row) → name ≡ codes "show" → LacksOneOf rows show_command.arguments
    → CommandAsksNothing (Some (name, rows))
no_show name rows is lacks = refuses
  where
    refuses : (task : Task) → CommandAsks (Some (name, rows)) task → ⊥
    refuses (Show options) asks = show_lacks rows options lacks asks.1
    refuses task asks = differs (codes "show") (task_name task) name refl refl is (called name rows task asks)

judge_lacks : (rows : List Row) (options : JudgeOptions) → LacksOneOf rows judge_command.arguments
    → AsksToJudge rows options → ⊥
judge_lacks rows options (inl role) asks = role options.role asks.0
judge_lacks rows options (inr (inl expect)) asks = expect options.expect asks.1
judge_lacks rows options (inr (inr (inl explain))) asks = explain options.explain asks.2
judge_lacks rows options (inr (inr (inr (inl shown)))) asks = shown options.style asks.3
judge_lacks rows options (inr (inr (inr (inr none)))) asks = absurd none

pub no_judge : (name : Text) (rows : List Row) → name ≡ codes "judge" → LacksOneOf rows judge_command.arguments
    → CommandAsksNothing (Some (name, rows))
no_judge name rows is lacks = refuses
  where
    refuses : (task : Task) → CommandAsks (Some (name, rows)) task → ⊥
    refuses (Judge options) asks = judge_lacks rows options lacks asks.1
    refuses task asks = differs (codes "judge") (task_name task) name refl refl is (called name rows task asks)

pair_lacks : (rows : List Row) (options : PairOptions) → LacksOneOf rows pair_command.arguments
    → AsksToPair rows options → ⊥
pair_lacks rows options (inl client) asks = client options.limit_client asks.0
pair_lacks rows options (inr (inl server)) asks = server options.limit_server asks.1
pair_lacks rows options (inr (inr (inl client))) asks = client options.limit_client options.frame_client asks.2
pair_lacks rows options (inr (inr (inr (inl server)))) asks = server options.limit_server options.frame_server asks.3
pair_lacks rows options (inr (inr (inr (inr none)))) asks = absurd none

pub no_pair : (name : Text) (rows : List Row) → name ≡ codes "pair" → LacksOneOf rows pair_command.arguments
    → CommandAsksNothing (Some (name, rows))
no_pair name rows is lacks = refuses
  where
    refuses : (task : Task) → CommandAsks (Some (name, rows)) task → ⊥
    refuses (Pair options) asks = pair_lacks rows options lacks asks.1
    refuses task asks = differs (codes "pair") (task_name task) name refl refl is (called name rows task asks)

session_lacks : (rows : List Row) (options : SessionOptions) → LacksOneOf rows session_command.arguments
    → AsksForSession rows options → ⊥
session_lacks rows options (inl role) asks = role options.role asks.0
session_lacks rows options (inr (inl limit)) asks = limit options.limit asks.1
session_lacks rows options (inr (inr (inl frame))) asks = frame options.limit options.frame asks.2
session_lacks rows options (inr (inr (inr (inl echo)))) asks = echo options.echo asks.3
session_lacks rows options (inr (inr (inr (inr none)))) asks = absurd none

pub no_session : (name : Text) (rows : List Row) → name ≡ codes "session" → LacksOneOf rows session_command.arguments
    → CommandAsksNothing (Some (name, rows))
no_session name rows is lacks = refuses
  where
    refuses : (task : Task) → CommandAsks (Some (name, rows)) task → ⊥
    refuses (Session options) asks = session_lacks rows options lacks asks.1
    refuses task asks = differs (codes "session") (task_name task) name refl refl is (called name rows task asks)

run_lacks : (rows : List Row) (options : RunOptions) (more : List ArgumentRow)
    → (LacksOneOf rows more → ⊥) → LacksOneOf rows (run_arguments_without_timeout ++ more) → AsksForRun rows options → ⊥
run_lacks rows options more none (inl role) asks = role options.role asks.role
run_lacks rows options more none (inr (inl expect)) asks = expect options.expect asks.expect
run_lacks rows options more none (inr (inr (inl key))) asks = no_word rows (codes "key") options.key.now key asks.key
run_lacks rows options more none (inr (inr (inr (inl timeout)))) asks = absurd timeout
run_lacks rows options more none (inr (inr (inr (inr (inl deadline))))) asks = absurd deadline
run_lacks rows options more none (inr (inr (inr (inr (inr (inl wait)))))) asks = absurd wait
run_lacks rows options more none (inr (inr (inr (inr (inr (inr (inl budget))))))) asks =
    budget options.budget asks.budget
run_lacks rows options more none (inr (inr (inr (inr (inr (inr (inr (inl protocols)))))))) asks = absurd protocols
run_lacks rows options more none (inr (inr (inr (inr (inr (inr (inr (inr (inl header))))))))) asks = absurd header
run_lacks rows options more none (inr (inr (inr (inr (inr (inr (inr (inr (inr (inl connect)))))))))) asks =
    absurd connect
run_lacks rows options more none (inr (inr (inr (inr (inr (inr (inr (inr (inr (inr (inl target))))))))))) asks =
    no_word rows (codes "target") options.target.now target asks.target
run_lacks rows options more none (inr (inr (inr (inr (inr (inr (inr (inr (inr (inr (inr rest))))))))))) asks = none rest

-- what `test`, `send` and `sweep` have beside them
abbrev sweep_own : List ArgumentRow
sweep_own = argument (codes "max-fail") Word ∷ argument (codes "at-once") Word
    ∷ argument_or (codes "steps") Number (codes "2") ∷ argument (codes "all") Flag
    ∷ argument (codes "progress") Flag ∷ []

abbrev test_own : List ArgumentRow
test_own = argument (codes "max-fail") Word ∷ argument (codes "at-once") Word ∷ argument (codes "capture") Flag
    ∷ argument (codes "explain") Flag ∷ argument_or (codes "data") Style (codes "hex")
    ∷ argument (codes "progress") Flag ∷ argument (codes "summary") Flag ∷ argument (codes "known") Flag ∷ argument (codes "junit") Flag
    ∷ argument (codes "ids") Words ∷ []

abbrev send_own : List ArgumentRow
send_own = argument (codes "capture") Flag ∷ argument_or (codes "data") Style (codes "hex")
    ∷ argument (codes "time") Flag ∷ argument (codes "heads") Flag ∷ []

test_lacks : (rows : List Row) (options : TestOptions) → LacksOneOf rows test_command.arguments
    → AsksToTest rows options → ⊥
test_lacks rows options lacks asks = run_lacks rows options.run test_own none lacks asks.run
  where
    none : LacksOneOf rows test_own → ⊥
    none (inl most) = absurd most
    none (inr (inl at_once)) = absurd at_once
    none (inr (inr (inl capture))) = capture options.capture asks.capture
    none (inr (inr (inr (inl explain)))) = explain options.explain asks.explain
    none (inr (inr (inr (inr (inl shown))))) = shown options.style asks.style
    none (inr (inr (inr (inr (inr (inl progress)))))) = progress options.progress asks.progress
    none (inr (inr (inr (inr (inr (inr (inl summary))))))) = summary options.summary asks.summary
    none (inr (inr (inr (inr (inr (inr (inr (inl known)))))))) = known options.known asks.known
    none (inr (inr (inr (inr (inr (inr (inr (inr (inl junit))))))))) = junit options.junit asks.junit
    none (inr (inr (inr (inr (inr (inr (inr (inr (inr (inl ids)))))))))) = absurd ids
    none (inr (inr (inr (inr (inr (inr (inr (inr (inr (inr other)))))))))) = absurd other

pub no_test : (name : Text) (rows : List Row) → name ≡ codes "test" → LacksOneOf rows test_command.arguments
    → CommandAsksNothing (Some (name, rows))
no_test name rows is lacks = refuses
  where
    refuses : (task : Task) → CommandAsks (Some (name, rows)) task → ⊥
    refuses (Test options) asks = test_lacks rows options lacks asks.1
    refuses task asks = differs (codes "test") (task_name task) name refl refl is (called name rows task asks)

serve_lacks : (rows : List Row) (options : ServeOptions) → LacksOneOf rows serve_command.arguments
    → AsksToServe rows options → ⊥
serve_lacks rows options (inl limit) asks = limit options.limit asks.0
serve_lacks rows options (inr (inl frame)) asks = frame options.limit options.frame asks.1
serve_lacks rows options (inr (inr (inl budget))) asks = budget options.budget asks.2
serve_lacks rows options (inr (inr (inr (inl timeout)))) asks = absurd timeout
serve_lacks rows options (inr (inr (inr (inr (inl deadline))))) asks = absurd deadline
serve_lacks rows options (inr (inr (inr (inr (inr (inl at_once)))))) asks =
    no_word rows (codes "at-once") options.at_once.now at_once asks.8
serve_lacks rows options (inr (inr (inr (inr (inr (inr (inl protocols))))))) asks = absurd protocols
serve_lacks rows options (inr (inr (inr (inr (inr (inr (inr (inl address)))))))) asks =
    no_word rows (codes "address") options.address.now address asks.3
serve_lacks rows options (inr (inr (inr (inr (inr (inr (inr (inr (inl count))))))))) asks = count options.count asks.4
serve_lacks rows options (inr (inr (inr (inr (inr (inr (inr (inr (inr none))))))))) asks = absurd none

pub no_serve : (name : Text) (rows : List Row) → name ≡ codes "serve" → LacksOneOf rows serve_command.arguments
    → CommandAsksNothing (Some (name, rows))
no_serve name rows is lacks = refuses
  where
    refuses : (task : Task) → CommandAsks (Some (name, rows)) task → ⊥
    refuses (Serve options) asks = serve_lacks rows options lacks asks.1
    refuses task asks = differs (codes "serve") (task_name task) name refl refl is (called name rows task asks)

tap_lacks : (rows : List Row) (options : TapOptions) → LacksOneOf rows tap_command.arguments
    → AsksToTap rows options → ⊥
tap_lacks rows options (inl at_once) asks = no_word rows (codes "at-once") options.at_once.now at_once asks.2
tap_lacks rows options (inr (inl listen)) asks = no_word rows (codes "listen") options.listen.now listen asks.0
tap_lacks rows options (inr (inr (inl target))) asks = no_word rows (codes "target") options.target.now target asks.1
tap_lacks rows options (inr (inr (inr (inl count)))) asks = count options.count asks.3
tap_lacks rows options (inr (inr (inr (inr (inl shown))))) asks = shown options.style asks.4
tap_lacks rows options (inr (inr (inr (inr (inr (inl time)))))) asks = time options.time asks.5
tap_lacks rows options (inr (inr (inr (inr (inr (inr none)))))) asks = absurd none

pub no_tap : (name : Text) (rows : List Row) → name ≡ codes "tap" → LacksOneOf rows tap_command.arguments
    → CommandAsksNothing (Some (name, rows))
no_tap name rows is lacks = refuses
  where
    refuses : (task : Task) → CommandAsks (Some (name, rows)) task → ⊥
    refuses (Tap options) asks = tap_lacks rows options lacks asks.1
    refuses task asks = differs (codes "tap") (task_name task) name refl refl is (called name rows task asks)

cases_lacks : (rows : List Row) (options : CasesOptions) → LacksOneOf rows cases_command.arguments
    → AsksForCases rows options → ⊥
cases_lacks rows options (inl titles) asks = titles options.titles asks.0
cases_lacks rows options (inr (inl id)) asks = absurd id
cases_lacks rows options (inr (inr none)) asks = absurd none

pub no_cases : (name : Text) (rows : List Row) → name ≡ codes "cases" → LacksOneOf rows cases_command.arguments
    → CommandAsksNothing (Some (name, rows))
no_cases name rows is lacks = refuses
  where
    refuses : (task : Task) → CommandAsks (Some (name, rows)) task → ⊥
    refuses (Cases options) asks = cases_lacks rows options lacks asks.1
    refuses task asks = differs (codes "cases") (task_name task) name refl refl is (called name rows task asks)

report_lacks : (rows : List Row) (options : ReportOptions) → LacksOneOf rows report_command.arguments
    → AsksToReport rows options → ⊥
report_lacks rows options (inl json) asks = json options.json asks.0
report_lacks rows options (inr (inl summary)) asks = summary options.summary asks.1
report_lacks rows options (inr (inr (inl junit))) asks = junit options.junit asks.2
report_lacks rows options (inr (inr (inr (inl date)))) asks = absurd date
report_lacks rows options (inr (inr (inr (inr none)))) asks = absurd none

pub no_report : (name : Text) (rows : List Row) → name ≡ codes "report" → LacksOneOf rows report_command.arguments
    → CommandAsksNothing (Some (name, rows))
no_report name rows is lacks = refuses
  where
    refuses : (task : Task) → CommandAsks (Some (name, rows)) task → ⊥
    refuses (Report options) asks = report_lacks rows options lacks asks.1
    refuses task asks = differs (codes "report") (task_name task) name refl refl is (called name rows task asks)

send_lacks : (rows : List Row) (options : SendOptions) → LacksOneOf rows send_command.arguments
    → AsksToSend rows options → ⊥
send_lacks rows options (inl role) asks = role options.run.role asks.0.role
send_lacks rows options (inr (inl expect)) asks = expect options.run.expect asks.0.expect
send_lacks rows options (inr (inr (inl key))) asks = no_word rows (codes "key") options.run.key.now key asks.0.key
send_lacks rows options (inr (inr (inr (inl timeout)))) asks = no_word rows (codes "timeout") asks.5.0 timeout asks.5.1
send_lacks rows options (inr (inr (inr (inr more)))) asks =
    run_lacks rows options.run send_own none (inr (inr (inr (inr more)))) asks.0
  where
    none : LacksOneOf rows send_own → ⊥
    none (inl capture) = capture options.capture asks.1
    none (inr (inl shown)) = shown options.style asks.2
    none (inr (inr (inl time))) = time options.time asks.3
    none (inr (inr (inr (inl heads)))) = heads options.heads asks.4
    none (inr (inr (inr (inr other)))) = absurd other

pub no_send : (name : Text) (rows : List Row) → name ≡ codes "send" → LacksOneOf rows send_command.arguments
    → CommandAsksNothing (Some (name, rows))
no_send name rows is lacks = refuses
  where
    refuses : (task : Task) → CommandAsks (Some (name, rows)) task → ⊥
    refuses (Send options) asks = send_lacks rows options lacks asks.1
    refuses task asks = differs (codes "send") (task_name task) name refl refl is (called name rows task asks)

sweep_lacks : (rows : List Row) (options : SweepOptions) → LacksOneOf rows sweep_command.arguments
    → AsksToSweep rows options → ⊥
sweep_lacks rows options lacks asks = run_lacks rows options.run sweep_own none lacks asks.run
  where
    none : LacksOneOf rows sweep_own → ⊥
    none (inl most) = absurd most
    none (inr (inl at_once)) = absurd at_once
    none (inr (inr (inl steps))) = steps options.steps asks.steps
    none (inr (inr (inr (inl all)))) = all options.all asks.all
    none (inr (inr (inr (inr (inl progress))))) = progress options.progress asks.progress
    none (inr (inr (inr (inr (inr other))))) = absurd other

pub no_sweep : (name : Text) (rows : List Row) → name ≡ codes "sweep" → LacksOneOf rows sweep_command.arguments
    → CommandAsksNothing (Some (name, rows))
no_sweep name rows is lacks = refuses
  where
    refuses : (task : Task) → CommandAsks (Some (name, rows)) task → ⊥
    refuses (Sweep options) asks = sweep_lacks rows options lacks asks.1
    refuses task asks = differs (codes "sweep") (task_name task) name refl refl is (called name rows task asks)
