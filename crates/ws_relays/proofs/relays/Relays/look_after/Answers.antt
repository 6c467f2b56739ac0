-- The connection that was stirred is asked for.
use Rattle.std.proofs.Common.{◌≡◌, ◌∙◌, ◌+◌, ◌<◌, Some, ap, length, refl, rules, subst, sym, ℕ}
use Rattle.ws_relays.specs.InnerRelays.{end_at}
use Rattle.ws_relays.specs.declared.relays.Pair.{Pair}
use Rattle.ws_relays.proofs.RelaySees.{ask_settles, looks_after, never_besides, stirred_at, stirred_settles}
use Rattle.ws_relays.proofs.RelaySees.{stirred_within}
use Rattle.ws_relays.proofs.relays.Relays.look_after.Goals as goal

pub end_at-at-requires : goal.end_at-at-requires
end_at-at-requires g c =
    let (tapping, all, stood) = c.requires.stood in
    let len : c.len.result ≡ length c.args.self.now.pairs.items = search rules in
    subst (λ (k : ℕ). c.args.place < k + k) (sym len)
    (stirred_within g.S.NonBlocking.did tapping c.args.self.now c.args.place all stood)

pub pair_of-requires : goal.pair_of-requires
pair_of-requires g c =
    let (tapping, all, stood) = c.requires.stood in
    let len : c.len.result ≡ length c.args.self.now.pairs.items = search rules in
    (stirred_at g.S.NonBlocking.did tapping c.args.self.now c.args.place c.end_at-at.result all
    (c.end_at-at.ensures.end ∙ ap (λ (k : ℕ). end_at k c.args.place) len) stood).1

pub ask-dialled-requires-clause-within : goal.ask-dialled-requires-clause-within
ask-dialled-requires-clause-within g c =
    let (tapping, all, stood) = c.requires.stood in
    let len : c.len.result ≡ length c.args.self.now.pairs.items = search rules in
    (stirred_settles g.S.NonBlocking.did tapping c.args.self.now (record c.args.self.now {
      pairs = c.pair_of.new.pairs;
    }) c.args.place c.end_at-at.result c.in-Joining.number c.in-Joining.dial all
    (c.end_at-at.ensures.end ∙ ap (λ (k : ℕ). end_at k c.args.place) len)
    (c.pair_of.ensures.taken ∙ ap (λ (p : Pair g.row.A.Denot g.row.S.Denot g.row.W.Denot). Some p) c.in-Joining.is)
    (record {
      style = refl;
      server = refl;
      time = refl;
      ends = refl;
      pairs = c.pair_of.ensures.free;
      taken = refl;
      there = refl;
    }) stood).1.next

pub ask-dialled-requires-clause-fresh : goal.ask-dialled-requires-clause-fresh
ask-dialled-requires-clause-fresh g c =
    let (tapping, all, stood) = c.requires.stood in
    let len : c.len.result ≡ length c.args.self.now.pairs.items = search rules in
    (stirred_settles g.S.NonBlocking.did tapping c.args.self.now (record c.args.self.now {
      pairs = c.pair_of.new.pairs;
    }) c.args.place c.end_at-at.result c.in-Joining.number c.in-Joining.dial all
    (c.end_at-at.ensures.end ∙ ap (λ (k : ℕ). end_at k c.args.place) len)
    (c.pair_of.ensures.taken ∙ ap (λ (p : Pair g.row.A.Denot g.row.S.Denot g.row.W.Denot). Some p) c.in-Joining.is)
    (record {
      style = refl;
      server = refl;
      time = refl;
      ends = refl;
      pairs = c.pair_of.ensures.free;
      taken = refl;
      there = refl;
    }) stood).1.fresh

pub settle-requires : goal.settle-requires
settle-requires g c = record {
  stood =
      let (tapping, all, stood) = c.requires.stood in
      let len : c.len.result ≡ length c.args.self.now.pairs.items = search rules in
      let d = c.ask-dialled.ensures in (
        tapping,
        record { parts = all.parts; done = _ },
        ask_settles g.S.NonBlocking.did g.N.Network.did c.args.self.now _ c.args.place c.end_at-at.result
            c.in-Joining.number c.in-Joining.dial c.ask-dialled.result c.args.network.now c.ask-dialled.new.network
            d.dialled d.within d.fresh (c.end_at-at.ensures.end ∙ ap (λ (k : ℕ). end_at k c.args.place) len)
            (c.pair_of.ensures.taken ∙ ap (λ (p : Pair g.row.A.Denot g.row.S.Denot g.row.W.Denot). Some p)
            c.in-Joining.is) (record {
              style = refl;
              server = refl;
              time = refl;
              ends = refl;
              pairs = c.pair_of.ensures.free;
              taken = refl;
              there = refl;
            }) tapping all stood,
      );
}

pub returns-in-Joining-clause-stands : goal.returns-in-Joining-clause-stands
returns-in-Joining-clause-stands g c =
    let len : c.len.result ≡ length c.args.self.now.pairs.items = search rules in
    let d = c.ask-dialled.ensures in
    looks_after g.S.NonBlocking.did g.N.Network.did c.args.self.now _ c.args.place c.end_at-at.result
    c.in-Joining.number c.in-Joining.dial c.ask-dialled.result c.args.network.now c.ask-dialled.new.network
    d.dialled d.within d.fresh (c.end_at-at.ensures.end ∙ ap (λ (k : ℕ). end_at k c.args.place) len)
    (c.pair_of.ensures.taken ∙ ap (λ (p : Pair g.row.A.Denot g.row.S.Denot g.row.W.Denot). Some p) c.in-Joining.is)
    (record {
      style = refl;
      server = refl;
      time = refl;
      ends = refl;
      pairs = c.pair_of.ensures.free;
      taken = refl;
      there = refl;
    }) c.settle.new.self c.settle.result c.settle.ensures.stands

pub returns : goal.returns
returns g c =
    let (tapping, all, stood) = c.requires.stood in
    let len : c.len.result ≡ length c.args.self.now.pairs.items = search rules in
    absurd (never_besides g.S.NonBlocking.did tapping c.args.self.now c.args.place c.end_at-at.result
    c.pair_of.result all (c.end_at-at.ensures.end ∙ ap (λ (k : ℕ). end_at k c.args.place) len)
    c.pair_of.ensures.taken stood c.in-Free.is)
