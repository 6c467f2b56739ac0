-- A connection is begun where an address was found.
use Rattle.std.proofs.Common.{◌≡◌, ◌∙◌, ◌+◌, ap, length, rules, ℕ}
use Rattle.ws_relays.proofs.RelaySees.{dial_settles, joins_none, joins_some}
use Rattle.ws_relays.proofs.RelayWork.{join_missed}
use Rattle.ws_relays.proofs.relays.Relays.join.Goals as goal

pub settle-requires : goal.settle-requires
settle-requires g c = record {
  stood =
      let (tapping, all, h) = c.requires.stood in
      let len : c.len.result ≡ length c.args.self.now.pairs.items = search rules in
      let d = c.begin_dial-dialled.ensures in (
        tapping,
        record {
          parts = all.parts;
          done = _;
        },
        dial_settles g.S.NonBlocking.did g.N.Network.did c.args.self.now c.args.at c.args.number c.args.network.now
            c.look_up.new.self c.begin_dial-dialled.new.network (c.len.result + c.args.at) c.in-Ok.addresses.items
            c.begin_dial-dialled.result d.dialled d.within d.fresh tapping all
            (ap (λ (k : ℕ). k + c.args.at) (len ∙ h.others.1.pairs.many)) h,
      );
}

pub end-requires : goal.end-requires
end-requires g c = record {
  stood =
      let (tapping, all, h) = c.requires.stood in (
        tapping,
        record { parts = all.parts; done = _ },
        join_missed g.S.NonBlocking.did tapping c.args.self.now c.args.at c.args.number c.in-Err.field-0 all h,
      );
}

pub returns-in-Ok-clause-stands : goal.returns-in-Ok-clause-stands
returns-in-Ok-clause-stands g c =
    let len : c.len.result ≡ length c.args.self.now.pairs.items = search rules in
    let d = c.begin_dial-dialled.ensures in
    joins_some g.S.NonBlocking.did g.N.Network.did c.args.self.now c.args.at c.args.number c.args.network.now
    c.look_up.new.self c.begin_dial-dialled.new.network (c.len.result + c.args.at) c.in-Ok.addresses.items
    c.begin_dial-dialled.result d.dialled d.within d.fresh c.settle.new.self c.settle.result c.in-Ok.ensures.did
    (ap (λ (k : ℕ). k + c.args.at) len) c.settle.ensures.stands

pub returns-in-Err-clause-stands : goal.returns-in-Err-clause-stands
returns-in-Err-clause-stands g c =
    joins_none g.S.NonBlocking.did g.N.Network.did c.args.self.now c.args.at c.args.number c.args.network.now
    c.look_up.new.self c.look_up.new.self c.end.new.self c.in-Err.field-0 c.end.result c.in-Err.ensures.did
    c.end.ensures.ended c.end.ensures.stands
