-- All goes on in the run of the loop, and then this has come.
use Rattle.std.proofs.Common.{◌∙◌, None, refl, sym}
use Rattle.ws_relays.specs.EndPlaces.{FreePlace, ends_there}
use Rattle.ws_relays.proofs.EndPlaceLemmas.{came_so, client_came, client_so, empty_free, heard_client, heard_deaf}
use Rattle.ws_relays.proofs.EndPlaceLemmas.{heard_ended, heard_late, heard_lost, over_came, over_so, over_within}
use Rattle.ws_relays.proofs.EndPlaceLemmas.{seen_on, unheard_so}
use Rattle.ws_relays.proofs.ends.Ends.wait.Goals as goal

pub ended-requires-clause-at : goal.ended-requires-clause-at
ended-requires-clause-at g c = over_within c.run_listening.new.self.places c.self.inside.beside.items c.in-Ended.at
    (c.self.invariant ∙ sym c.in_ok-arrival.ensures.run.len)
    (over_came g.S.NonBlocking.did None (g.P.Poller.time c.run_listening.new.poller) c.run_listening.new.self
    c.in_ok-arrival.arrival c.in-Ended.at c.in-Ended.is c.in_ok-arrival.ensures.arrived)

pub ended-requires-clause-over : goal.ended-requires-clause-over
ended-requires-clause-over g c = λ slot is.
    over_so c.run_listening.new.self.places c.self.inside.beside.items c.in-Ended.at slot
    (over_came g.S.NonBlocking.did None (g.P.Poller.time c.run_listening.new.poller) c.run_listening.new.self
    c.in_ok-arrival.arrival c.in-Ended.at c.in-Ended.is c.in_ok-arrival.ensures.arrived) is

pub keep-requires : goal.keep-requires
keep-requires g c =
    let (free, fresh) = (client_came g.S.NonBlocking.did None (g.P.Poller.time c.run_listening.new.poller)
    c.run_listening.new.self c.in_ok-arrival.arrival c.in-Client.at c.in-Client.stream c.in-Client.is
    c.in_ok-arrival.ensures.arrived) in record {
      none = (
        FreePlace,
        empty_free c.run_listening.new.self.places c.self.inside.beside.items c.in-Client.at
            (c.self.invariant ∙ sym c.in_ok-arrival.ensures.run.len) free,
        refl,
      );
    }

pub returns-in_ok-came-in-Ended-clause-came : goal.returns-in_ok-came-in-Ended-clause-came
returns-in_ok-came-in-Ended-clause-came g c = came_so g.S.NonBlocking.did c.args.self.now
    (ends_there c.run_listening.new.self.places c.self.inside.beside.items) c.ended.new.self c.in_ok-came-in-Ended.came
    (seen_on g.S.NonBlocking.did (g.P.Poller.time c.args.poller.now) (g.P.Poller.time c.run_listening.new.poller)
    c.self.inside.all.places c.run_listening.new.self.places c.self.inside.beside.items c.args.self.now _
    c.run_listening.new.sink c.self.view_is c.self.invariant c.in_ok-arrival.ensures.run)
    c.in_ok-came-in-Ended.ensures.came

pub returns-in_ok-came-in-Ended-clause-heard : goal.returns-in_ok-came-in-Ended-clause-heard
returns-in_ok-came-in-Ended-clause-heard g c = unheard_so g.L.Listener.did c.args.listener.now
    c.run_listening.new.listener c.in_ok-came-in-Ended.came c.in_ok-came-in-Ended.ensures.unheard
    (heard_ended g.L.Listener.did c.args.listener.now c.run_listening.new.listener
    c.run_listening.new.self c.in_ok-arrival.arrival
    c.in-Ended.at c.in-Ended.is c.in_ok-arrival.ensures.asked)

pub returns-in-Client-clause-came : goal.returns-in-Client-clause-came
returns-in-Client-clause-came g c =
    let (free, fresh) = (client_came g.S.NonBlocking.did None (g.P.Poller.time c.run_listening.new.poller)
    c.run_listening.new.self c.in_ok-arrival.arrival c.in-Client.at c.in-Client.stream c.in-Client.is
    c.in_ok-arrival.ensures.arrived) in
    let (was, goes) = client_so g.S.NonBlocking.did c.args.self.now
    (ends_there c.run_listening.new.self.places c.self.inside.beside.items) c.keep.new.self c.in-Client.at
    (seen_on g.S.NonBlocking.did (g.P.Poller.time c.args.poller.now) (g.P.Poller.time c.run_listening.new.poller)
    c.self.inside.all.places c.run_listening.new.self.places c.self.inside.beside.items c.args.self.now _
    c.run_listening.new.sink c.self.view_is c.self.invariant c.in_ok-arrival.ensures.run)
    (empty_free c.run_listening.new.self.places c.self.inside.beside.items c.in-Client.at
    (c.self.invariant ∙ sym c.in_ok-arrival.ensures.run.len) free) c.keep.ensures.kept in
    (was, goes, fresh)

pub returns-in-NotAccepted-clause-came : goal.returns-in-NotAccepted-clause-came
returns-in-NotAccepted-clause-came g c = seen_on g.S.NonBlocking.did (g.P.Poller.time c.args.poller.now)
    (g.P.Poller.time c.run_listening.new.poller)
    c.self.inside.all.places c.run_listening.new.self.places c.self.inside.beside.items c.args.self.now _
    c.run_listening.new.sink c.self.view_is c.self.invariant c.in_ok-arrival.ensures.run

pub returns-in-Lost-clause-came : goal.returns-in-Lost-clause-came
returns-in-Lost-clause-came g c = seen_on g.S.NonBlocking.did (g.P.Poller.time c.args.poller.now)
    (g.P.Poller.time c.run_listening.new.poller)
    c.self.inside.all.places c.run_listening.new.self.places c.self.inside.beside.items c.args.self.now _
    c.run_listening.new.sink c.self.view_is c.self.invariant c.in_ok-arrival.ensures.run

pub returns-in-TooLate-clause-came : goal.returns-in-TooLate-clause-came
returns-in-TooLate-clause-came g c = seen_on g.S.NonBlocking.did (g.P.Poller.time c.args.poller.now)
    (g.P.Poller.time c.run_listening.new.poller)
    c.self.inside.all.places c.run_listening.new.self.places c.self.inside.beside.items c.args.self.now _
    c.run_listening.new.sink c.self.view_is c.self.invariant c.in_ok-arrival.ensures.run

pub returns-in-Client-clause-heard : goal.returns-in-Client-clause-heard
returns-in-Client-clause-heard g c = heard_client g.L.Listener.did c.args.listener.now c.run_listening.new.listener
    c.run_listening.new.self c.in_ok-arrival.arrival c.in-Client.at c.in-Client.stream c.in-Client.is
    c.in_ok-arrival.ensures.asked

pub returns-in-NotAccepted-clause-heard : goal.returns-in-NotAccepted-clause-heard
returns-in-NotAccepted-clause-heard g c = heard_deaf g.L.Listener.did c.args.listener.now c.run_listening.new.listener
    c.run_listening.new.self c.in_ok-arrival.arrival c.in-NotAccepted.why c.in-NotAccepted.is
    c.in_ok-arrival.ensures.asked

pub returns-in-Lost-clause-heard : goal.returns-in-Lost-clause-heard
returns-in-Lost-clause-heard g c = heard_lost g.L.Listener.did c.args.listener.now c.run_listening.new.listener
    c.run_listening.new.self c.in_ok-arrival.arrival c.in-Lost.field-0 c.in-Lost.is c.in_ok-arrival.ensures.asked

pub returns-in-TooLate-clause-heard : goal.returns-in-TooLate-clause-heard
returns-in-TooLate-clause-heard g c = heard_late g.L.Listener.did c.args.listener.now c.run_listening.new.listener
    c.run_listening.new.self c.in_ok-arrival.arrival c.in-TooLate.is c.in_ok-arrival.ensures.asked
