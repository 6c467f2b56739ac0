-- Event after event: the lines of the events so far stand behind those that were there.
use Rattle.std.proofs.Common.{◌≡◌, ◌++◌, take, string_bytes}
use Rattle.ws_calls.specs.InnerSteps.{told_behind}
use Rattle.ws_calls.proofs.report_lines.tell_events.Given as goal

-- the events so far are told
abbrev pub invariant-loop-placed : goal.invariant-loop-placed
invariant-loop-placed l = string_bytes l.lines ≡ string_bytes l.fn.lines ++ told_behind l.start (take l.placed-index l.events)
