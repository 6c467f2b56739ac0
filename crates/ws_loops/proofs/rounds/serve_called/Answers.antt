-- One that has ended stays as it is; one that has not has no number.
use Rattle.std.proofs.Common.{◌∙◌, None, Option, ℕ, Some, ap, arith, refl, sym}
use Rattle.std.specs.List.{slice_get}
use Rattle.std.specs.Vec.{with_item}
use Rattle.std.proofs.lemmas.Option.{slice_get_within}
use Rattle.ws_loops.specs.declared.places.Seats.{Seats}
use Rattle.ws_loops.proofs.InsideLemmas.{standing_same}
use Rattle.ws_loops.proofs.PlaceLemmas.{length_set, none_of, place_of, some_of, kinds_same}
use Rattle.ws_loops.proofs.SeatLemmas.{once_ended, rests_ended}
use Rattle.ws_loops.proofs.SinkLemmas.{put_nothing}
use Rattle.ws_loops.proofs.rounds.serve_called.Goals as goal

pub returns-then-is_some-clause-served : goal.returns-then-is_some-clause-served
returns-then-is_some-clause-served g c =
    let old = c.args.seats.now in
    let at = c.args.at in
    let (x, x_is) = place_of old.places.items at (omega (
      arith,
      c.requires.standing.calls,
      slice_get_within old.calls.items at (Some c.args.ready) c.requires.call,
    )) in
    let ticket = ap (λ l. slice_get l at) (sym c.as_slice.ensures.value) ∙ c.ticket_at.ensures in
    let (t, t_is) = some_of c.ticket_at.result (sym c.is_some.ensures ∙ c.if-is_some.true) in
    once_ended g.M.Machine.agrees g.M.Machine.wants g.S.NonBlocking.did g.K.LineSink.heard c.args.now at old _
    c.args.sink.now c.args.sink.now c.args.ready x c.requires.standing x_is c.requires.call
    (t, ticket ∙ ap (λ (o : Option ℕ). Some o) t_is) refl refl refl refl
    (put_nothing g.K.LineSink.heard c.args.sink.now)

pub returns-then-is_some-clause-standing : goal.returns-then-is_some-clause-standing
returns-then-is_some-clause-standing g c = standing_same g.M.Machine.agrees g.M.Machine.wants c.args.seats.now _
    c.requires.standing refl (length_set c.args.seats.now.calls.items c.args.at None) refl refl refl refl

pub returns-then-is_some-clause-kinds : goal.returns-then-is_some-clause-kinds
returns-then-is_some-clause-kinds g c = kinds_same c.args.seats.now.places.items

pub returns-then-is_some-clause-rests : goal.returns-then-is_some-clause-rests
returns-then-is_some-clause-rests g c =
    let old = c.args.seats.now in
    let at = c.args.at in
    let (x, x_is) = place_of old.places.items at (omega (
      arith,
      c.requires.standing.calls,
      slice_get_within old.calls.items at (Some c.args.ready) c.requires.call,
    )) in
    let ticket = ap (λ l. slice_get l at) (sym c.as_slice.ensures.value) ∙ c.ticket_at.ensures in
    let (t, t_is) = some_of c.ticket_at.result (sym c.is_some.ensures ∙ c.if-is_some.true) in
    let new : Seats g.row.M.Denot g.row.S.Denot = record {
      places = old.places;
      calls = with_item old.calls at None;
      tickets = old.tickets;
      agenda = old.agenda;
    } in
    rests_ended g.M.Machine.agrees g.M.Machine.wants g.S.NonBlocking.did g.K.LineSink.heard c.args.now at old new
    c.args.sink.now c.args.sink.now x c.requires.rests c.requires.standing x_is
    (t, ticket ∙ ap (λ (o : Option ℕ). Some o) t_is) refl refl refl

pub serve_going-requires-clause-goes : goal.serve_going-requires-clause-goes
serve_going-requires-clause-goes g c = ap (λ l. slice_get l c.args.at) (sym c.as_slice.ensures.value)
    ∙ (c.ticket_at.ensures ∙ ap (λ (o : Option ℕ). Some o)
    (none_of c.ticket_at.result (sym c.is_some.ensures ∙ c.if-is_some.false)))
