-- The lines of the cases so far that were not run, and the count with them.
use Rattle.std.proofs.Common.{◌≡◌, ◌+◌, ◌≤◌, string_bytes, take}
use Rattle.wst_clients.specs.ClientTests.{AddsNotRun}
use Rattle.wst_clients.proofs.testing_clients.not_run_lines.Given as goal

abbrev pub invariant-loop-place : goal.invariant-loop-place
invariant-loop-place l = record {
  added : AddsNotRun l.rules.telling (take l.place l.cases) (take l.place l.standing.behaviors) l.initial.score (string_bytes l.lines) l.score;
  pass : l.score.tally.pass ≡ l.initial.score.tally.pass;
  loose : l.score.tally.loose ≡ l.initial.score.tally.loose;
  fail : l.score.tally.fail ≤ l.initial.score.tally.fail + l.place;
  failures : l.score.failures ≤ l.initial.score.failures + l.place;
}
