-- What is to be asked of both ends is asked.
use Rattle.std.proofs.Common.{◌≡◌, ◌+◌, ◌<◌, length, refl, rules, subst, sym, true, ℕ}
use Rattle.ws_wire.specs.declared.role.Role.TheVariants.{Server}
use Rattle.ws_relays.specs.EndPlaces.{HasEndAt}
use Rattle.ws_relays.specs.InnerRelays.{AsksEnd}
use Rattle.ws_relays.proofs.RelayWork.{asked_stands, server_asked, within_pairs}
use Rattle.ws_relays.proofs.relays.Relays.ask_both.Goals as goal

pub ask_end-requires-2 : goal.ask_end-requires-2
ask_end-requires-2 g c =
    let (tapping, all, stood) = c.requires.stood in
    let len : c.len.result ≡ length c.args.self.now.pairs.items = search rules in record {
      there = subst (λ (k : ℕ). HasEndAt c.ask_end.new.ends (k + c.args.at) true) (sym len)
          (server_asked g.S.NonBlocking.did tapping c.args.self.now c.args.at c.args.relay c.ask_end.new.ends all
          c.in_ok-ask_end.ensures.asks stood);
    }

pub index_mut-requires : goal.index_mut-requires
index_mut-requires g c =
    let (tapping, all, stood) = c.requires.stood in
    let less : c.args.at < length c.args.self.now.pairs.items =
    within_pairs g.S.NonBlocking.did tapping c.args.self.now c.args.at c.args.relay.number all stood.0 in
    search (rules, less)

pub returns-clause-stands : goal.returns-clause-stands
returns-clause-stands g c = λ tapping all stood.
    let len : c.len.result ≡ length c.args.self.now.pairs.items = search rules in
    asked_stands g.S.NonBlocking.did tapping c.args.self.now _ c.args.at c.args.relay c.ask_end.new.relay
    c.ask_end-2.new.relay c.ask_end.new.ends c.ask_end-2.new.ends all
    c.ask_end.ensures.tap c.ask_end.ensures.number c.ask_end-2.ensures.tap c.ask_end-2.ensures.number
    c.in_ok-ask_end.ensures.asks
    (subst (λ (k : ℕ). AsksEnd g.S.NonBlocking.did c.ask_end.new.ends c.ask_end-2.new.ends (k + c.args.at) Server
    c.ask_end.new.relay) len c.in_ok-ask_end-2.ensures.asks) (record {
      style = refl;
      server = refl;
      time = refl;
      ends = refl;
      pairs = refl;
      taken = refl;
      there = refl;
    }) stood
