-- The bytes that come next are searched, and what is found is marked.
use Rattle.ws_suite.specs.Evidence.{other_role}
use Rattle.ws_shown.specs.MarkedLines.{got_over}
use Rattle.ws_shown.proofs.MarkedTellings.{got_ahead, got_marked_already}
use Rattle.ws_shown.proofs.marked_lines.MarkedLines.search_got.Goals as goal

pub returns-in-None : goal.returns-in-None
returns-in-None c = λ showing turns written h.
    let searched = c.in_ok-take.ensures.taken (other_role showing.tested) (got_over turns) h.got_searched in
    c.mark_found_got.ensures showing turns written c.args.piece.now
    (got_ahead showing c.args.self.now c.take.new.self turns written c.args.piece.now c.in-None.is searched h)

pub returns-in-Some : goal.returns-in-Some
returns-in-Some c = λ showing turns written h.
    let searched = c.in_ok-take.ensures.taken (other_role showing.tested) (got_over turns) h.got_searched in
    got_marked_already showing c.args.self.now c.take.new.self turns written c.args.piece.now c.in-Some.field-0
    c.in-Some.is searched h
