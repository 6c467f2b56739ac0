-- The bytes that come next are searched, and what is found is marked.
use Rattle.ws_shown.specs.MarkedLines.{sent_over}
use Rattle.ws_shown.proofs.MarkedTellings.{sent_ahead, sent_marked_already}
use Rattle.ws_shown.proofs.marked_lines.MarkedLines.search_sent.Goals as goal

pub returns-in-None : goal.returns-in-None
returns-in-None c = λ showing turns written h.
    let searched = c.in_ok-take.ensures.taken showing.tested (sent_over turns) h.sent_searched in
    c.mark_found_sent.ensures showing turns written c.args.piece.now
    (sent_ahead showing c.args.self.now c.take.new.self turns written c.args.piece.now c.in-None.is searched h)

pub returns-in-Some : goal.returns-in-Some
returns-in-Some c = λ showing turns written h.
    let searched = c.in_ok-take.ensures.taken showing.tested (sent_over turns) h.sent_searched in
    sent_marked_already showing c.args.self.now c.take.new.self turns written c.args.piece.now c.in-Some.field-0
    c.in-Some.is searched h
