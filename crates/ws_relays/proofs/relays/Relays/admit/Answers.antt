-- A client comes into its place.
use Rattle.std.proofs.Common.{arith, refl}
use Rattle.ws_relays.specs.EndPlaces.{KeptPlace}
use Rattle.ws_relays.proofs.RelayEvents.{client_comes, client_kept, there_fits}
use Rattle.ws_relays.proofs.relays.Relays.admit.Goals as goal

pub put-requires : goal.put-requires
put-requires g c =
    let (tapping, all, stood) = c.requires.stood in record {
      none = (
        KeptPlace,
        client_kept g.S.NonBlocking.did tapping c.args.self.now c.args.at c.args.client all stood,
        refl,
      );
    }

pub returns-clause-comes : goal.returns-clause-comes
returns-clause-comes g c = λ tapping all stood. client_comes g.S.NonBlocking.did tapping c.args.self.now _ c.args.at
    c.args.number c.args.client all c.requires.number (record {
      style = refl;
      server = refl;
      time = refl;
      ends = c.put.ensures.held;
      pairs = refl;
      taken = refl;
      there = omega (
        arith,
        c.saturating_add-self.ensures,
        there_fits g.S.NonBlocking.did tapping c.args.self.now c.args.at
            c.args.client all stood,
      );
    }) stood
