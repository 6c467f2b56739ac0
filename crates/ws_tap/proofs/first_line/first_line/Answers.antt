-- The empty lines are passed over, and the line is cut at its end.
use Rattle.std.proofs.Common.{◌-◌, length, take, drop}
use Rattle.std.proofs.lemmas.List.{take_rest}
use Rattle.ws_tap.proofs.FirstLines.{first_line_is}
use Rattle.ws_tap.proofs.first_line.first_line.Goals as goal

pub returns-clause-line : goal.returns-clause-line
returns-clause-line c =
    let head = c.args.head.now in
    let start = c.line_start.result in
    first_line_is head (take (length head - start) (drop start head)) start c.line_len.result (take_rest head start)
    c.line_start.ensures.place c.line_len.ensures.place
