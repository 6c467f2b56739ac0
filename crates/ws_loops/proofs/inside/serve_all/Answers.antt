-- All places are called, and each has its turn.
use Rattle.std.proofs.Common.{◌∙◌, false, refl, subst, sym}
use Rattle.ws_loops.specs.Inside.{AreAllCalled}
use Rattle.ws_loops.specs.Loops.{AreServed}
use Rattle.ws_loops.specs.Places.{StayOfKind}
use Rattle.ws_loops.specs.declared.inside.Inside.{Inside}
use Rattle.ws_loops.specs.declared.places.Seats.{Seats}
use Rattle.ws_loops.proofs.InsideLemmas.{among_every, all_called, none_called, rests_all}
use Rattle.ws_loops.proofs.InsideLemmas.{served_over, standing_same, turns_by_call, whole_refused, whole_served}
use Rattle.ws_loops.proofs.inside.serve_all.Goals as goal

pub serve_these-requires-clause-standing : goal.serve_these-requires-clause-standing
serve_these-requires-clause-standing g c = standing_same g.M.Machine.agrees g.M.Machine.wants c.args.inside.now.seats _
    c.requires.whole.standing refl c.call_these.ensures.called.len refl refl refl refl

pub serve_these-requires-clause-rests : goal.serve_these-requires-clause-rests
serve_these-requires-clause-rests g c =
    let old = c.args.inside.now in
    let passed : Seats g.row.M.Denot g.row.S.Denot = record {
      places = old.seats.places;
      calls = c.call_these.new.calls;
      tickets = old.seats.tickets;
      agenda = record {
        later = old.seats.agenda.later;
        limits = old.seats.agenda.limits;
        all = false;
        given = old.seats.agenda.given;
        ended = old.seats.agenda.ended;
      };
    } in
    rests_all g.M.Machine.agrees g.M.Machine.wants old passed c.requires.whole
    (subst (λ l. AreAllCalled l old.seats.calls.items c.call_these.new.calls.items) c.as_slice.ensures.value
    c.call_these.ensures.called) refl

pub returns-in-Ok-clause-served : goal.returns-in-Ok-clause-served
returns-in-Ok-clause-served g c =
    let agrees = g.M.Machine.agrees in
    let wants = g.M.Machine.wants in
    let did = g.S.NonBlocking.did in
    let heard = g.K.LineSink.heard in
    let old = c.args.inside.now in
    let passed : Seats g.row.M.Denot g.row.S.Denot = record {
      places = old.seats.places;
      calls = c.call_these.new.calls;
      tickets = old.seats.tickets;
      agenda = record {
        later = old.seats.agenda.later;
        limits = old.seats.agenda.limits;
        all = false;
        given = old.seats.agenda.given;
        ended = old.seats.agenda.ended;
      };
    } in
    let called : AreAllCalled old.all.items old.seats.calls.items c.call_these.new.calls.items =
    subst (λ l. AreAllCalled l old.seats.calls.items c.call_these.new.calls.items) c.as_slice.ensures.value
    c.call_these.ensures.called in
    let served : AreServed agrees wants did heard c.args.now old.all.items passed
    c.serve_these.new.seats c.args.sink.now c.serve_these.new.sink = subst (λ l. AreServed agrees wants did heard
    c.args.now l passed c.serve_these.new.seats c.args.sink.now c.serve_these.new.sink)
    c.as_slice-2.ensures.value c.in-Ok.ensures.served in
    let served_inside : Inside g.row.M.Denot g.row.S.Denot = record {
      seats = c.serve_these.new.seats;
      list = old.list;
      all = old.all;
      found = old.found;
      door = old.door;
      free = old.free;
    } in
    let among = among_every agrees wants did heard old c.call_these.new.calls.items c.requires.whole
    (called.len ∙ c.requires.whole.standing.calls) in
    let turns = turns_by_call agrees wants did heard c.args.now old.all.items old.seats passed
    c.serve_these.new.seats c.args.sink.now c.serve_these.new.sink c.requires.whole.standing.calls called.len refl
    called.stay (λ i place is none. absurd (all_called g.M.Machine.agrees g.M.Machine.wants old
    old.seats.places.items c.call_these.new.calls.items c.requires.whole called refl i place is none))
    served among in
    served_over agrees wants did heard c.args.now old served_inside c.turn_over.new.inside c.args.sink.now
    c.serve_these.new.sink turns served.turns c.turn_over.ensures

pub returns-in-Ok-clause-whole : goal.returns-in-Ok-clause-whole
returns-in-Ok-clause-whole g c =
    let agrees = g.M.Machine.agrees in
    let wants = g.M.Machine.wants in
    let did = g.S.NonBlocking.did in
    let heard = g.K.LineSink.heard in
    let old = c.args.inside.now in
    let passed : Seats g.row.M.Denot g.row.S.Denot = record {
      places = old.seats.places;
      calls = c.call_these.new.calls;
      tickets = old.seats.tickets;
      agenda = record {
        later = old.seats.agenda.later;
        limits = old.seats.agenda.limits;
        all = false;
        given = old.seats.agenda.given;
        ended = old.seats.agenda.ended;
      };
    } in
    let called : AreAllCalled old.all.items old.seats.calls.items c.call_these.new.calls.items =
    subst (λ l. AreAllCalled l old.seats.calls.items c.call_these.new.calls.items) c.as_slice.ensures.value
    c.call_these.ensures.called in
    let served : AreServed agrees wants did heard c.args.now old.all.items passed
    c.serve_these.new.seats c.args.sink.now c.serve_these.new.sink = subst (λ l. AreServed agrees wants did heard
    c.args.now l passed c.serve_these.new.seats c.args.sink.now c.serve_these.new.sink)
    c.as_slice-2.ensures.value c.in-Ok.ensures.served in
    let served_inside : Inside g.row.M.Denot g.row.S.Denot = record {
      seats = c.serve_these.new.seats;
      list = old.list;
      all = old.all;
      found = old.found;
      door = old.door;
      free = old.free;
    } in
    let among = among_every agrees wants did heard old c.call_these.new.calls.items c.requires.whole
    (called.len ∙ c.requires.whole.standing.calls) in
    whole_served agrees wants old served_inside c.turn_over.new.inside c.requires.whole
    c.in-Ok.ensures.standing c.in-Ok.ensures.rests c.in-Ok.ensures.kinds
    (none_called agrees wants did heard c.args.now old.all.items passed c.serve_these.new.seats
    c.args.sink.now c.serve_these.new.sink (called.len ∙ c.requires.whole.standing.calls) served among) refl refl
    c.turn_over.ensures

pub returns-in-Err-clause-whole : goal.returns-in-Err-clause-whole
returns-in-Err-clause-whole g c = whole_refused g.M.Machine.agrees g.M.Machine.wants c.args.inside.now _
    c.serve_these.new.seats c.requires.whole c.in-Err.ensures.standing c.in-Err.ensures.kinds refl refl refl refl refl
    refl refl refl refl

pub returns-in-Ok-clause-kinds : goal.returns-in-Ok-clause-kinds
returns-in-Ok-clause-kinds g c = subst (λ l. StayOfKind c.args.inside.now.seats.places.items l)
    (sym c.turn_over.ensures.places) c.in-Ok.ensures.kinds
