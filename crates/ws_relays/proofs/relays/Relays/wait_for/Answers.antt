-- A connection to the server is under way.
use Rattle.std.proofs.Common.{◌≡◌, ◌∙◌, ◌+◌, ◌<◌, ℕ, ap, length, refl, false, rules, slice_set, subst, sym}
use Rattle.ws_relays.specs.EndPlaces.{AwaitedPlace, HasEndAt}
use Rattle.ws_relays.proofs.RelayWork.{settle_waits, within_pairs}
use Rattle.ws_relays.proofs.relays.Relays.wait_for.Goals as goal

pub await_connection-requires : goal.await_connection-requires
await_connection-requires g c = record {
  none =
      let (tapping, all, stood) = c.requires.stood in
      let len : c.len.result ≡ length c.args.self.now.pairs.items = search rules in
      subst (λ (k : ℕ). HasEndAt c.args.self.now.ends (k + c.args.at) false) (sym (len ∙ stood.0.1.pairs.many))
      stood.1.kept;
}

pub index_mut-requires : goal.index_mut-requires
index_mut-requires g c =
    let (tapping, all, stood) = c.requires.stood in
    let less : c.args.at < length c.args.self.now.pairs.items =
    within_pairs g.S.NonBlocking.did tapping c.args.self.now c.args.at c.args.number all stood.0 in
    search (rules, less)

pub returns-clause-stands : goal.returns-clause-stands
returns-clause-stands g c = λ tapping all stood.
    let len : c.len.result ≡ length c.args.self.now.pairs.items = search rules in
    settle_waits g.S.NonBlocking.did tapping c.args.self.now _ c.args.at c.args.number c.args.dial all (record {
      style = refl;
      server = refl;
      time = refl;
      ends = c.await_connection.ensures.awaited ∙ ap (λ (k : ℕ). slice_set c.args.self.now.ends (k + c.args.at)
          AwaitedPlace) (len ∙ stood.0.1.pairs.many);
      pairs = refl;
      taken = refl;
      there = refl;
    }) stood
