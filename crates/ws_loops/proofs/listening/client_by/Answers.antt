-- What came of it where one was asked for.
use Rattle.std.proofs.Common.{◌∙◌, ap, inl, subst, sym}
use Rattle.ws_loops.specs.Listeners.{HasAskedClient}
use Rattle.ws_loops.specs.declared.inside.Door.{Door}
use Rattle.ws_loops.proofs.ListenLemmas.{asked_so, heard_nothing}
use Rattle.ws_loops.proofs.listening.client_by.Goals as goal

pub returns-in-Some-clause-client : goal.returns-in-Some-clause-client
returns-in-Some-clause-client g c =
    let (free, is, hears) = c.in-Some.ensures.place in
    let does = g.L.Client.NonBlocking.did in
    let did = g.L.Listener.did in
    let same = ap (λ (d : Door). d.deaf) c.place_to_ask.ensures.door in
    asked_so g.M.Machine.wants does did c.in-Some.at c.args.over c.args.listener.now c.ask.new.listener
    (record {
      places = c.place_to_ask.new.inside.seats.places.items;
      tickets = c.place_to_ask.new.inside.seats.tickets.items;
      deaf = c.ask.new.door.deaf;
    }) c.args.inside.now.door.deaf c.ask.new.door.deaf c.ask.result free is
    (sym same ∙ hears)
    (subst (λ b. HasAskedClient does did c.in-Some.at c.args.listener.now c.ask.new.listener b c.ask.result
    c.ask.new.door.deaf) same c.ask.ensures)

pub returns-in-None-clause-client : goal.returns-in-None-clause-client
returns-in-None-clause-client g c = (
  heard_nothing g.L.Listener.did c.args.listener.now,
  ap (λ (d : Door). d.deaf) c.place_to_ask.ensures.door,
  λ so. inl (c.in-None.ensures.place so),
)
