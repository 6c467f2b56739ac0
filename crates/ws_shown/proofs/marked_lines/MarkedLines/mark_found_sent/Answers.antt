-- What was found is marked.
use Rattle.std.proofs.Common.{◌++◌, ◌∙◌, Some, sym}
use Rattle.ws_shown.specs.MarkedLines.{sent_over}
use Rattle.ws_shown.proofs.MarkedTellings.{found_sent, mark_so}
use Rattle.ws_shown.proofs.marked_lines.MarkedLines.mark_found_sent.Goals as goal

pub returns-in-Some : goal.returns-in-Some
returns-in-Some c = λ showing turns written piece h.
    let role = showing.tested in
    let found = mark_so role (sent_over turns ++ piece) c.fault.result (Some c.in-Some.place) c.in-Some.is
    (c.fault.ensures.found role (sent_over turns ++ piece) h.sent_searched) in
    found_sent showing c.args.self.now c.mark_sent.new.self turns written piece c.in-Some.place
    c.mark_sent.ensures.marked found h

pub returns-in_default : goal.returns-in_default
returns-in_default c = λ showing turns written piece h.
    let role = showing.tested in
    record {
      sent_searched = h.sent_searched;
      got_searched = h.got_searched;
      sent_mark = mark_so role (sent_over turns ++ piece) c.fault.result c.args.self.now.marked.sent
          (c.in_default.is ∙ sym h.unmarked) (c.fault.ensures.found role (sent_over turns ++ piece) h.sent_searched);
      got_mark = h.got_mark;
      lines = h.lines;
    }
