-- Line after line: what was written and waits is, with what the lines become that are left, what was due.
use Rattle.std.proofs.Common.{◌≡◌, ◌++◌, List, ℕ, None, false, length}
use Rattle.std.specs.List.{AllByRecursion}
use Rattle.ws_formats.specs.Lines.{IsLine, ended}
use Rattle.ws_frame.specs.Watching.{has_failed, inner_of}
use Rattle.ws_capture_text.specs.InnerJoining.{joined_lines}
use Rattle.ws_capture_text.proofs.LineAfterLine.{Goes}
use Rattle.ws_capture_text.proofs.joining.put_lines.Given as goal

-- no write has failed, and the lines that are left become what is due
abbrev pub invariant-loop-line : goal.invariant-loop-line
invariant-loop-line g l =
    (has_failed l.writer ≡ false)
    × ((all : List (List ℕ)) → AllByRecursion IsLine all → l.fn.lines ≡ ended all
    → Goes (l.initial.room ++ joined_lines None all) l.room l.last l.rest
    (g.W.Write.contents (inner_of l.initial.writer)) (g.W.Write.contents (inner_of l.writer)))

abbrev pub decreases-loop-line : goal.decreases-loop-line
decreases-loop-line g l = length l.rest
