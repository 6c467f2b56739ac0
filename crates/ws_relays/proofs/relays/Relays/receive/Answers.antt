-- A client has come, and is joined to the server.
use Rattle.ws_relays.proofs.relays.Relays.receive.Goals as goal

pub join-requires : goal.join-requires
join-requires g c = record {
  stood =
      let (tapping, all, stood) = c.requires.stood in
      (tapping, all, c.admit.ensures.comes tapping all stood);
}

pub returns-clause-stands : goal.returns-clause-stands
returns-clause-stands g c =
    let joined = c.in_ok-event.ensures.stands in record {
      done = joined.done;
      added = joined.added;
      stands = λ tapping all stood. joined.stands tapping all (c.admit.ensures.comes tapping all stood);
    }
