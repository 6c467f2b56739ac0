-- Of a slot it is its turn, or memory ran out for it.
use Rattle.std.proofs.Common.{ℕ, List, subst, sym}
use Rattle.ws_loops.specs.Loops.{HasPlaceTurn}
use Rattle.ws_loops.specs.Places.{IfOpen, IsPlaceOver}
use Rattle.ws_loops.specs.Slots.{HasBroken, IsAble, PutsSome}
use Rattle.ws_loops.specs.declared.places.Place.TheVariants.{Broken, Open}
use Rattle.ws_loops.proofs.RunLemmas.{at_no_memory}
use Rattle.ws_loops.proofs.SeatLemmas.{goes_on_so}
use Rattle.ws_loops.proofs.rounds.serve_place.Goals as goal

pub serve_slot-requires-clause-goes_on : goal.serve_slot-requires-clause-goes_on
serve_slot-requires-clause-goes_on g c = goes_on_so (g.M.Machine.wants c.in-Open.slot.machine).done
    (λ done. c.requires.goes_on (subst (λ p. IsPlaceOver g.M.Machine.wants p) (sym c.in-Open.is) done))

pub serve_slot-requires-clause-able : goal.serve_slot-requires-clause-able
serve_slot-requires-clause-able g c =
    subst (λ p. IfOpen p (λ slot. IsAble g.M.Machine.agrees g.M.Machine.wants slot.machine)) c.in-Open.is
    c.requires.able

pub returns-in-Ok-clause-turn : goal.returns-in-Ok-clause-turn
returns-in-Ok-clause-turn g c =
    let (lines, put, turn) = c.in-Ok.ensures.turn in (
      lines,
      put,
      subst (λ p. HasPlaceTurn g.M.Machine.agrees g.M.Machine.wants g.S.NonBlocking.did c.args.ready c.args.now p
          (Open c.serve_slot.new.slot) lines) (sym c.in-Open.is) turn,
    )

pub returns-in-Err-NoMemory-clause-turn : goal.returns-in-Err-NoMemory-clause-turn
returns-in-Err-NoMemory-clause-turn g c =
    let (lines, put, broken) = at_no_memory (PutsSome g.K.LineSink.heard c.args.at c.args.sink.now
    c.serve_slot.new.sink (λ (l : List (List ℕ)). HasBroken g.M.Machine.agrees g.M.Machine.wants g.S.NonBlocking.did
    c.args.now c.args.now c.in-Open.slot l)) c.in-Err-NoMemory.field-0 c.in-Err-NoMemory.field-0-is
    c.in-Err-NoMemory.ensures.put in (
      lines,
      put,
      subst (λ p. HasPlaceTurn g.M.Machine.agrees g.M.Machine.wants g.S.NonBlocking.did c.args.ready c.args.now p
          Broken lines) (sym c.in-Open.is) broken,
    )
