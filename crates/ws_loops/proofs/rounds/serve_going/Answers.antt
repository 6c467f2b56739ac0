-- It has had its turn, and how it stands then is noted; where its lines were not taken it is called still.
use Rattle.std.proofs.Common.{◌≡◌, ◌∙◌, ◌<◌, List, Option, None, Some, ap, arith, length, refl, slice_set, subst, sym}
use Rattle.std.specs.List.{slice_get}
use Rattle.std.specs.Vec.{with_item}
use Rattle.std.proofs.lemmas.Option.{slice_get_within}
use Rattle.ws_loops.specs.Places.{StayOfKind}
use Rattle.ws_loops.specs.declared.places.Seats.{Seats}
use Rattle.ws_loops.specs.declared.poller.Readiness.{Readiness}
use Rattle.ws_loops.proofs.PlaceLemmas.{length_set, read_place, kinds_set}
use Rattle.ws_loops.proofs.SeatLemmas.{not_ended, once_served, rests_noted, rests_refused, standing_noted}
use Rattle.ws_loops.proofs.SeatLemmas.{standing_refused}
use Rattle.ws_loops.proofs.rounds.serve_going.Goals as goal

pub serve_place-requires-clause-able : goal.serve_place-requires-clause-able
serve_place-requires-clause-able g c =
    let agrees = g.M.Machine.agrees in
    let wants = g.M.Machine.wants in
    let old = c.args.seats.now in
    let at = c.args.at in
    let lt : at < length old.places.items = omega (
      arith,
      c.requires.standing.calls,
      slice_get_within old.calls.items at (Some c.args.ready) c.requires.call,
    ) in
    let x = c.index_mut.result.now in
    let x_is : slice_get old.places.items at ≡ Some x =
    read_place old.places.items at x x lt c.index_mut.ensures.value refl in
    c.requires.standing.able at x x_is

pub serve_place-requires-clause-goes_on : goal.serve_place-requires-clause-goes_on
serve_place-requires-clause-goes_on g c =
    let agrees = g.M.Machine.agrees in
    let wants = g.M.Machine.wants in
    let old = c.args.seats.now in
    let at = c.args.at in
    let lt : at < length old.places.items = omega (
      arith,
      c.requires.standing.calls,
      slice_get_within old.calls.items at (Some c.args.ready) c.requires.call,
    ) in
    let x = c.index_mut.result.now in
    let x_is : slice_get old.places.items at ≡ Some x =
    read_place old.places.items at x x lt c.index_mut.ensures.value refl in
    not_ended agrees wants old at x c.requires.standing x_is c.requires.goes

pub note-requires-clause-at : goal.note-requires-clause-at
note-requires-clause-at g c = slice_get_within c.args.seats.now.tickets.items c.args.at None c.requires.goes

pub note-requires-clause-limit : goal.note-requires-clause-limit
note-requires-clause-limit g c = omega (
  arith,
  c.requires.standing.limits,
  c.requires.standing.tickets,
  slice_get_within c.args.seats.now.tickets.items c.args.at None c.requires.goes,
)

pub index_mut-requires-2 : goal.index_mut-requires-2
index_mut-requires-2 g c = omega (
  arith,
  ap (λ (l : List (Option Readiness)). length l) c.note.ensures.noted.calls,
  slice_get_within c.args.seats.now.calls.items c.args.at (Some c.args.ready) c.requires.call,
)

pub returns-clause-served : goal.returns-clause-served
returns-clause-served g c =
    let agrees = g.M.Machine.agrees in
    let wants = g.M.Machine.wants in
    let old = c.args.seats.now in
    let at = c.args.at in
    let lt : at < length old.places.items = omega (
      arith,
      c.requires.standing.calls,
      slice_get_within old.calls.items at (Some c.args.ready) c.requires.call,
    ) in
    let x = c.index_mut.result.now in
    let x_is : slice_get old.places.items at ≡ Some x =
    read_place old.places.items at x x lt c.index_mut.ensures.value refl in
    let noted = c.note.ensures.noted in
    let (lines, put, turn) = c.in_ok-outlook.ensures.turn in
    once_served agrees wants g.S.NonBlocking.did g.K.LineSink.heard c.args.now at old _ c.args.sink.now
    c.serve_place.new.sink c.args.ready x c.serve_place.new.place c.in_ok-outlook.outlook lines x_is c.requires.call
    c.requires.goes noted.places (ap (λ (l : List (Option Readiness)). slice_set l at None) noted.calls) noted.noted put
    turn

pub returns-clause-standing : goal.returns-clause-standing
returns-clause-standing g c =
    let agrees = g.M.Machine.agrees in
    let wants = g.M.Machine.wants in
    let old = c.args.seats.now in
    let at = c.args.at in
    let lt : at < length old.places.items = omega (
      arith,
      c.requires.standing.calls,
      slice_get_within old.calls.items at (Some c.args.ready) c.requires.call,
    ) in
    let x = c.index_mut.result.now in
    let x_is : slice_get old.places.items at ≡ Some x =
    read_place old.places.items at x x lt c.index_mut.ensures.value refl in
    let noted = c.note.ensures.noted in
    standing_noted agrees wants old _ at c.serve_place.new.place c.in_ok-outlook.outlook c.requires.standing
    c.requires.goes noted.places (ap (λ (l : List (Option Readiness)). length (slice_set l at None)) noted.calls
    ∙ length_set old.calls.items at None) c.in_ok-outlook.ensures.able c.in_ok-outlook.ensures.outlook noted.rest
    noted.noted

pub returns-clause-rests : goal.returns-clause-rests
returns-clause-rests g c =
    let agrees = g.M.Machine.agrees in
    let wants = g.M.Machine.wants in
    let old = c.args.seats.now in
    let at = c.args.at in
    let lt : at < length old.places.items = omega (
      arith,
      c.requires.standing.calls,
      slice_get_within old.calls.items at (Some c.args.ready) c.requires.call,
    ) in
    let x = c.index_mut.result.now in
    let x_is : slice_get old.places.items at ≡ Some x =
    read_place old.places.items at x x lt c.index_mut.ensures.value refl in
    let noted = c.note.ensures.noted in
    let new : Seats g.row.M.Denot g.row.S.Denot = record {
      places = c.note.new.seats.places;
      calls = with_item c.note.new.seats.calls at None;
      tickets = c.note.new.seats.tickets;
      agenda = c.note.new.seats.agenda;
    } in
    rests_noted agrees wants old new at c.serve_place.new.place c.in_ok-outlook.outlook c.requires.rests
    (omega (arith, c.requires.standing.limits, lt)) noted.places
    (ap (λ (l : List (Option Readiness)). slice_set l at None) noted.calls) noted.rest c.in_ok-outlook.ensures.outlook
    noted.noted

pub returns-clause-kinds : goal.returns-clause-kinds
returns-clause-kinds g c =
    let agrees = g.M.Machine.agrees in
    let wants = g.M.Machine.wants in
    let old = c.args.seats.now in
    let at = c.args.at in
    let lt : at < length old.places.items = omega (
      arith,
      c.requires.standing.calls,
      slice_get_within old.calls.items at (Some c.args.ready) c.requires.call,
    ) in
    let x = c.index_mut.result.now in
    let x_is : slice_get old.places.items at ≡ Some x =
    read_place old.places.items at x x lt c.index_mut.ensures.value refl in
    subst (λ l. StayOfKind old.places.items l) (sym c.note.ensures.noted.places)
    (kinds_set wants old.places.items at x c.serve_place.new.place x_is
    (not_ended agrees wants old at x c.requires.standing x_is c.requires.goes) c.in_ok-outlook.ensures.kinds)

pub returns-in_err-outlook-clause-standing : goal.returns-in_err-outlook-clause-standing
returns-in_err-outlook-clause-standing g c = standing_refused g.M.Machine.agrees g.M.Machine.wants c.args.seats.now _
    c.args.at c.serve_place.new.place c.requires.standing c.requires.goes refl refl c.in_err-outlook.ensures.able
    c.in_err-outlook.ensures.goes_on refl refl

pub returns-in_err-outlook-clause-rests : goal.returns-in_err-outlook-clause-rests
returns-in_err-outlook-clause-rests g c =
    let old = c.args.seats.now in
    let new : Seats g.row.M.Denot g.row.S.Denot = record {
      places = with_item old.places c.args.at c.serve_place.new.place;
      calls = old.calls;
      tickets = old.tickets;
      agenda = old.agenda;
    } in
    rests_refused g.M.Machine.agrees g.M.Machine.wants old new c.args.at c.serve_place.new.place c.args.ready
    c.requires.rests c.requires.call refl refl refl

pub returns-in_err-outlook-clause-kinds : goal.returns-in_err-outlook-clause-kinds
returns-in_err-outlook-clause-kinds g c =
    let agrees = g.M.Machine.agrees in
    let wants = g.M.Machine.wants in
    let old = c.args.seats.now in
    let at = c.args.at in
    let lt : at < length old.places.items = omega (
      arith,
      c.requires.standing.calls,
      slice_get_within old.calls.items at (Some c.args.ready) c.requires.call,
    ) in
    let x = c.index_mut.result.now in
    let x_is : slice_get old.places.items at ≡ Some x =
    read_place old.places.items at x x lt c.index_mut.ensures.value refl in
    kinds_set wants old.places.items at x c.serve_place.new.place x_is
    (not_ended agrees wants old at x c.requires.standing x_is c.requires.goes) c.in_err-outlook.ensures.kinds
