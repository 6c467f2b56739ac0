-- The task is that of the command that clap finds, and a fault is clap's, or that there is no task.
use Rattle.std.proofs.Common.{rules, ◌≡◌, ap, map, string_bytes, true}
use Rattle.clap.specs.Words.{app_of, is_simple, subcommand_rows_of}
use Rattle.clap.specs.Faults.{is_simple_and_free}
use Rattle.wst_words.specs.Arguments.{Places}
use Rattle.wst_words.specs.Words.{CommandAsks, CommandAsksNothing, wst_app}
use Rattle.wst_words.proofs.WordLemmas.{fault_read, memory_read, nothing_read, task_read}
use Rattle.wst_words.proofs.words.read_words.Goals as goal

nowhere : Places
nowhere = record {
  list = (0, 0);
  client = (0, 0);
  server = (0, 0);
  expectations = (0, 0);
  echo = (0, 0);
  protocol = (0, 0);
  styles = (0, 0);
  hex = (0, 0);
  text = (0, 0);
  all = (0, 0);
}

pub returns-in_err-command : goal.returns-in_err-command
returns-in_err-command c = record { read = (nowhere, memory_read (wst_app nowhere) (map string_bytes c.args.words.now) c.from_residual.result c.from_residual.ensures.1) }

pub returns-in_err-matches : goal.returns-in_err-matches
returns-in_err-matches c =
    let app = c.in_ok-command.ensures in
    let free : is_simple_and_free (app_of c.in_ok-command.command) ≡ true = ap is_simple_and_free app.1 in
    record {
      read = (app.0, fault_read (app_of c.in_ok-command.command) (wst_app app.0) (map string_bytes c.args.words.now) c.from_residual-in_err-matches.result _ app.1 c.from_residual-in_err-matches.ensures.1 (c.in_err-matches.ensures.kinds free));
    }

pub returns-in_err-task : goal.returns-in_err-task
returns-in_err-task c =
    let app = c.in_ok-command.ensures in
    record { read = (app.0, memory_read (wst_app app.0) (map string_bytes c.args.words.now) c.from_residual-in_err-task.result c.from_residual-in_err-task.ensures.1) }

pub returns-in-Some : goal.returns-in-Some
returns-in-Some c =
    let app = c.in_ok-command.ensures in
    let free : is_simple_and_free (app_of c.in_ok-command.command) ≡ true = ap is_simple_and_free app.1 in
    let simple : is_simple (app_of c.in_ok-command.command) ≡ true = ap is_simple app.1 in
    let asks : CommandAsks (subcommand_rows_of c.in_ok-matches.matches) c.in-Some.task = search rules in
    record {
      read = (app.0, task_read (app_of c.in_ok-command.command) (wst_app app.0) (map string_bytes c.args.words.now) _ c.in-Some.task app.1 (c.in_ok-matches.ensures.kinds free) (c.in_ok-matches.ensures.matches simple).1 asks);
    }

pub returns : goal.returns
returns c =
    let app = c.in_ok-command.ensures in
    let free : is_simple_and_free (app_of c.in_ok-command.command) ≡ true = ap is_simple_and_free app.1 in
    let simple : is_simple (app_of c.in_ok-command.command) ≡ true = ap is_simple app.1 in
    let asks_nothing : CommandAsksNothing (subcommand_rows_of c.in_ok-matches.matches) = search rules in
    record {
      read = (app.0, nothing_read (app_of c.in_ok-command.command) (wst_app app.0) (map string_bytes c.args.words.now) _ app.1 (c.in_ok-matches.ensures.kinds free) (c.in_ok-matches.ensures.matches simple).1 asks_nothing);
    }
