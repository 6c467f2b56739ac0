-- What has happened among those who come is known: there is no turn, or who was decided passes by, or waits.
use Rattle.wst_clients.proofs.HeldLemmas.{held_decided, held_gone, held_next, held_played}
use Rattle.wst_clients.proofs.VisitorLemmas.{are_still, deaf_now, decided_now, late_now}
use Rattle.wst_clients.proofs.visiting.meet_next.Goals as goal

pub returns-in-TooLate-clause-none : goal.returns-in-TooLate-clause-none
returns-in-TooLate-clause-none g c = late_now g.L.Client.NonBlocking.did g.L.Listener.did g.P.Poller.time
    c.args.round.rules.now c.args.visitors.now c.next.new.self c.wait_end-until.result c.in_ok-event.event
    c.in_ok-event.ensures.happened c.in_ok-event.ensures.stay c.requires.are c.in-TooLate.is c.wait_end-until.ensures

pub returns-in-Deaf-clause-none : goal.returns-in-Deaf-clause-none
returns-in-Deaf-clause-none g c = deaf_now g.L.Client.NonBlocking.did g.L.Listener.did g.P.Poller.time
    c.args.round.rules.now c.args.visitors.now c.next.new.self c.wait_end-until.result c.in_ok-event.event
    c.in_ok-event.ensures.happened c.in_ok-event.ensures.stay c.requires.are _ c.in-Deaf.is

pub admit-requires-clause-came : goal.admit-requires-clause-came
admit-requires-clause-came g c = decided_now g.L.Client.NonBlocking.did g.L.Listener.did g.P.Poller.time
    c.args.round.rules.now c.args.visitors.now c.next.new.self c.wait_end-until.result c.in_ok-event.event
    c.in_ok-event.ensures.happened c.in_ok-event.ensures.stay c.requires.are c.in-Decided.at c.in-Decided.admission
    c.in-Decided.is

pub admit-requires-clause-are : goal.admit-requires-clause-are
admit-requires-clause-are g c = are_still c.args.visitors.now c.next.new.self _ _ c.in_ok-event.ensures.stay
    c.requires.are

pub returns-in-TooLate-clause-held : goal.returns-in-TooLate-clause-held
returns-in-TooLate-clause-held g c = held_next g.L.Client.NonBlocking.did c.args.visitors.now c.next.new.self
    c.in_ok-event.ensures.stay c.in_ok-event.ensures.held c.requires.held

pub returns-in-Full-clause-held : goal.returns-in-Full-clause-held
returns-in-Full-clause-held g c = held_next g.L.Client.NonBlocking.did c.args.visitors.now c.next.new.self
    c.in_ok-event.ensures.stay c.in_ok-event.ensures.held c.requires.held

pub returns-in-Deaf-clause-held : goal.returns-in-Deaf-clause-held
returns-in-Deaf-clause-held g c = held_next g.L.Client.NonBlocking.did c.args.visitors.now c.next.new.self
    c.in_ok-event.ensures.stay c.in_ok-event.ensures.held c.requires.held

pub returns-in-Decided-clause-held : goal.returns-in-Decided-clause-held
returns-in-Decided-clause-held g c = held_decided g.L.Client.NonBlocking.did c.args.visitors.now
    c.next.new.self c.admit.new.visitors c.in_ok-event.event c.in_ok-event.ensures.stay c.in_ok-event.ensures.held
    c.in_ok-event.ensures.fresh c.requires.held c.in-Decided.at c.in-Decided.admission c.in-Decided.is
    c.in_ok-event.ensures.holds c.in_ok-admit-in-Decided.ensures.held

pub returns-in-Played-clause-held : goal.returns-in-Played-clause-held
returns-in-Played-clause-held g c = held_played g.L.Client.NonBlocking.did c.args.visitors.now
    c.next.new.self c.leave.new.self c.in_ok-event.event c.in_ok-event.ensures.stay c.in_ok-event.ensures.held
    c.in_ok-event.ensures.fresh c.requires.held c.in-Played.at _ c.in-Played.is c.leave.ensures.held

pub returns-clause-held : goal.returns-clause-held
returns-clause-held g c = held_gone g.L.Client.NonBlocking.did c.args.visitors.now
    c.next.new.self c.leave-in-Gone.new.self c.in_ok-event.event c.in_ok-event.ensures.stay c.in_ok-event.ensures.held
    c.in_ok-event.ensures.fresh c.requires.held c.in-Gone.at _ c.in-Gone.is c.leave-in-Gone.ensures.held
