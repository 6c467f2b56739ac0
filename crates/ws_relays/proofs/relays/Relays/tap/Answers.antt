-- The connection is tapped.
use Rattle.std.proofs.Common.{◌≡◌, ◌∙◌, ◌+◌, ap, false, length, refl, rules, slice_set, subst, sym, ℕ}
use Rattle.std.proofs.lemmas.Result.{IfOk-weaker}
use Rattle.ws_relays.specs.EndPlaces.{HasEndAt, HeldEnd}
use Rattle.ws_relays.proofs.RelayWork.{settle_made}
use Rattle.ws_relays.proofs.relays.Relays.tap.Goals as goal

pub put-requires : goal.put-requires
put-requires g c = record {
  none =
      let (tapping, all, stood) = c.requires.stood in
      let len : c.len.result ≡ length c.args.self.now.pairs.items = search rules in
      subst (λ (k : ℕ). HasEndAt c.args.self.now.ends (k + c.args.at) false) (sym (len ∙ stood.0.1.pairs.many))
      stood.1.kept;
}

pub ask_both-requires : goal.ask_both-requires
ask_both-requires g c = record {
  stood =
      let (tapping, all, stood) = c.requires.stood in
      let len : c.len.result ≡ length c.args.self.now.pairs.items = search rules in (
        tapping,
        all,
        settle_made g.S.NonBlocking.did tapping c.args.self.now _ c.args.at c.args.number c.args.server
            c.in_ok-relay.relay _ all (record {
              style = refl;
              server = refl;
              time = refl;
              ends = c.put.ensures.held ∙ ap (λ (k : ℕ). slice_set c.args.self.now.ends (k + c.args.at)
                  (HeldEnd c.args.server)) (len ∙ stood.0.1.pairs.many);
              pairs = refl;
              taken = refl;
              there = refl;
            }) refl c.in_ok-relay.ensures.number c.in_ok-relay.ensures.tap stood,
      );
}

pub returns-clause-stands : goal.returns-clause-stands
returns-clause-stands g c =
    IfOk-weaker c.ask_both.result _ _ (λ done stands. λ tapping all stood.
    let len : c.len.result ≡ length c.args.self.now.pairs.items = search rules in
    stands tapping all (settle_made g.S.NonBlocking.did tapping c.args.self.now _ c.args.at c.args.number
    c.args.server c.in_ok-relay.relay _ all (record {
      style = refl;
      server = refl;
      time = refl;
      ends = c.put.ensures.held ∙ ap (λ (k : ℕ). slice_set c.args.self.now.ends (k + c.args.at)
          (HeldEnd c.args.server)) (len ∙ stood.0.1.pairs.many);
      pairs = refl;
      taken = refl;
      there = refl;
    }) refl c.in_ok-relay.ensures.number c.in_ok-relay.ensures.tap stood)) c.ask_both.ensures.stands
