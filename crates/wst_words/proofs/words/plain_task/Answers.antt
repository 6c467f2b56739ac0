-- A command one of whose options has no value asks for nothing: `show`, `pair`, `session`, `cases`, `report`, `serve`,
-- `judge` and `tap`.
use Rattle.std.proofs.Common.{rules, ◌≡◌, List, Option, Some, codes}
use Rattle.clap.specs.Words.{Row, Text, found_of, rows_of}
use Rattle.wst_words.specs.Words.{CommandAsks, CommandAsksNothing}
use Rattle.wst_words.proofs.OtherTasks.{no_cases, no_judge, no_pair, no_report, no_serve, no_session, no_show, no_tap}
use Rattle.wst_words.proofs.WordLemmas.{none_from}
use Rattle.wst_words.proofs.words.plain_task.Goals as goal

pub returns-in_err-show_options-in-show : goal.returns-in_err-show_options-in-show
returns-in_err-show_options-in-show c =
    let met : Option (Text × List Row) = Some (c.args.name.now, rows_of (found_of c.args.options.now)) in
    let called : c.args.name.now ≡ codes "show" = search rules in
    let none : CommandAsksNothing met = no_show c.args.name.now (rows_of (found_of c.args.options.now)) called c.in_err-show_options-in-show.ensures in
    none_from c.from_residual.result (CommandAsksNothing met) (CommandAsks met) c.from_residual.ensures none

pub returns-in_err-pair_options-in-pair : goal.returns-in_err-pair_options-in-pair
returns-in_err-pair_options-in-pair c =
    let met : Option (Text × List Row) = Some (c.args.name.now, rows_of (found_of c.args.options.now)) in
    let called : c.args.name.now ≡ codes "pair" = search rules in
    let none : CommandAsksNothing met = no_pair c.args.name.now (rows_of (found_of c.args.options.now)) called c.in_err-pair_options-in-pair.ensures in
    none_from c.from_residual-in_err-pair_options-in-pair.result (CommandAsksNothing met) (CommandAsks met) c.from_residual-in_err-pair_options-in-pair.ensures none

pub returns-in_err-session_options-in-session : goal.returns-in_err-session_options-in-session
returns-in_err-session_options-in-session c =
    let met : Option (Text × List Row) = Some (c.args.name.now, rows_of (found_of c.args.options.now)) in
    let called : c.args.name.now ≡ codes "session" = search rules in
    let none : CommandAsksNothing met = no_session c.args.name.now (rows_of (found_of c.args.options.now)) called c.in_err-session_options-in-session.ensures in
    none_from c.from_residual-in_err-session_options-in-session.result (CommandAsksNothing met) (CommandAsks met) c.from_residual-in_err-session_options-in-session.ensures none

pub returns-in_err-cases_options-in-cases : goal.returns-in_err-cases_options-in-cases
returns-in_err-cases_options-in-cases c =
    let met : Option (Text × List Row) = Some (c.args.name.now, rows_of (found_of c.args.options.now)) in
    let called : c.args.name.now ≡ codes "cases" = search rules in
    let none : CommandAsksNothing met = no_cases c.args.name.now (rows_of (found_of c.args.options.now)) called c.in_err-cases_options-in-cases.ensures in
    none_from c.from_residual-in_err-cases_options-in-cases.result (CommandAsksNothing met) (CommandAsks met) c.from_residual-in_err-cases_options-in-cases.ensures none

pub returns-in_err-report_options-in-report : goal.returns-in_err-report_options-in-report
returns-in_err-report_options-in-report c =
    let met : Option (Text × List Row) = Some (c.args.name.now, rows_of (found_of c.args.options.now)) in
    let called : c.args.name.now ≡ codes "report" = search rules in
    let none : CommandAsksNothing met = no_report c.args.name.now (rows_of (found_of c.args.options.now)) called c.in_err-report_options-in-report.ensures in
    none_from c.from_residual-in_err-report_options-in-report.result (CommandAsksNothing met) (CommandAsks met) c.from_residual-in_err-report_options-in-report.ensures none

pub returns-in_err-serve_options-in-serve : goal.returns-in_err-serve_options-in-serve
returns-in_err-serve_options-in-serve c =
    let met : Option (Text × List Row) = Some (c.args.name.now, rows_of (found_of c.args.options.now)) in
    let called : c.args.name.now ≡ codes "serve" = search rules in
    let none : CommandAsksNothing met = no_serve c.args.name.now (rows_of (found_of c.args.options.now)) called c.in_err-serve_options-in-serve.ensures in
    none_from c.from_residual-in_err-serve_options-in-serve.result (CommandAsksNothing met) (CommandAsks met) c.from_residual-in_err-serve_options-in-serve.ensures none

pub returns-in_err-judge_options-in-judge : goal.returns-in_err-judge_options-in-judge
returns-in_err-judge_options-in-judge c =
    let met : Option (Text × List Row) = Some (c.args.name.now, rows_of (found_of c.args.options.now)) in
    let called : c.args.name.now ≡ codes "judge" = search rules in
    let none : CommandAsksNothing met = no_judge c.args.name.now (rows_of (found_of c.args.options.now)) called c.in_err-judge_options-in-judge.ensures in
    none_from c.from_residual-in_err-judge_options-in-judge.result (CommandAsksNothing met) (CommandAsks met) c.from_residual-in_err-judge_options-in-judge.ensures none

pub returns-in_err-tap_options-in-tap : goal.returns-in_err-tap_options-in-tap
returns-in_err-tap_options-in-tap c =
    let met : Option (Text × List Row) = Some (c.args.name.now, rows_of (found_of c.args.options.now)) in
    let called : c.args.name.now ≡ codes "tap" = search rules in
    let none : CommandAsksNothing met = no_tap c.args.name.now (rows_of (found_of c.args.options.now)) called c.in_err-tap_options-in-tap.ensures in
    none_from c.from_residual-in_err-tap_options-in-tap.result (CommandAsksNothing met) (CommandAsks met) c.from_residual-in_err-tap_options-in-tap.ensures none
