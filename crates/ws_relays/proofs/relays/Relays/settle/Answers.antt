-- None was made: the connection of the client ends.
use Rattle.std.proofs.Common.{[], Some, subst, sym}
use Rattle.ws_relays.specs.InnerRelays.{AreRelays, SettlesAt, parts_next, told_more}
use Rattle.ws_relays.specs.declared.relays.RelayEvent.{RelayEvent}
use Rattle.ws_relays.proofs.RelayWork.{settle_missed}
use Rattle.ws_relays.proofs.relays.Relays.settle.Goals as goal

pub end-requires : goal.end-requires
end-requires g c = record {
  stood =
      let did = g.S.NonBlocking.did in
      let (tapping, all, h) = c.requires.stood in (
        tapping,
        all,
        settle_missed did tapping c.args.self.now c.args.at c.args.number c.in-Missed.field-0 all
            (subst (λ (d : _). SettlesAt did c.args.self.now c.args.at c.args.number d tapping all) c.in-Missed.is h),
      );
}

pub returns-in-Missed-clause-stands : goal.returns-in-Missed-clause-stands
returns-in-Missed-clause-stands g c = λ tapping all h.
    let did = g.S.NonBlocking.did in
    let ends = settle_missed did tapping c.args.self.now c.args.at c.args.number c.in-Missed.field-0 all
    (subst (λ (d : _). SettlesAt did c.args.self.now c.args.at c.args.number d tapping all) c.in-Missed.is h) in
    subst (λ (e : RelayEvent). AreRelays did tapping c.end.new.self (told_more all (parts_next (Some e)) []))
    (sym c.end.ensures.ended) (c.end.ensures.stands tapping all ends)
