-- What was found is marked.
use Rattle.std.proofs.Common.{◌++◌, ◌∙◌, Some, sym}
use Rattle.ws_suite.specs.Evidence.{other_role}
use Rattle.ws_shown.specs.MarkedLines.{got_over}
use Rattle.ws_shown.proofs.MarkedTellings.{found_got, mark_so}
use Rattle.ws_shown.proofs.marked_lines.MarkedLines.mark_found_got.Goals as goal

pub returns-in-Some : goal.returns-in-Some
returns-in-Some c = λ showing turns written piece h.
    let role = other_role showing.tested in
    let found = mark_so role (got_over turns ++ piece) c.fault.result (Some c.in-Some.place) c.in-Some.is
    (c.fault.ensures.found role (got_over turns ++ piece) h.got_searched) in
    found_got showing c.args.self.now c.mark_got.new.self turns written piece c.in-Some.place
    c.mark_got.ensures.marked found h

pub returns-in_default : goal.returns-in_default
returns-in_default c = λ showing turns written piece h.
    let role = other_role showing.tested in
    record {
      sent_searched = h.sent_searched;
      got_searched = h.got_searched;
      got_mark = mark_so role (got_over turns ++ piece) c.fault.result c.args.self.now.marked.got
          (c.in_default.is ∙ sym h.unmarked) (c.fault.ensures.found role (got_over turns ++ piece) h.got_searched);
      sent_mark = h.sent_mark;
      lines = h.lines;
    }
