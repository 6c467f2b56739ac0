-- What its tap asks for is asked of an end, or nothing has changed.
use Rattle.std.proofs.Common.{Option, subst}
use Rattle.ws_relays.specs.Relayed.{IsAskFor}
use Rattle.ws_relays.specs.declared.ends.Ask.{Ask}
use Rattle.ws_relays.proofs.RelayWork.{asks_none, asks_some}
use Rattle.ws_relays.proofs.relays.ask_end.Goals as goal

pub returns-in_ok-ask-2-clause-asks : goal.returns-in_ok-ask-2-clause-asks
returns-in_ok-ask-2-clause-asks g c = asks_some g.S.NonBlocking.did c.args.relay.now c.args.role c.args.ends.now
    c.ask-in-Some.new.self c.args.place c.in-Some.ask
    (subst (λ (o : Option Ask). IsAskFor c.args.role c.args.relay.now o) c.in-Some.is c.in_ok-ask.ensures.ask)
    c.in_ok-ask-2.ensures.asked

pub returns-in_default-clause-asks : goal.returns-in_default-clause-asks
returns-in_default-clause-asks g c =
    asks_none g.S.NonBlocking.did c.args.relay.now c.args.role c.args.ends.now c.args.place c.requires.there
