-- The case has ended, or it plays on where something else has happened.
use Rattle.std.proofs.Common.{◌∙◌, None}
use Rattle.wst_clients.proofs.HeldLemmas.{held_decided, held_gone, held_next, held_played, held_same}
use Rattle.wst_clients.proofs.VisitingLemmas.{on_deaf, on_decided, on_end, on_full, on_gone, on_late, on_played}
use Rattle.wst_clients.proofs.VisitorLemmas.{decided_now, waits_admitted, waits_same, waits_then}
use Rattle.wst_clients.proofs.visiting.run_on.Goals as goal

pub returns-then-place-at-clause-runs : goal.returns-then-place-at-clause-runs
returns-then-place-at-clause-runs g c = on_end _ g.L.Client.NonBlocking.did c.args.visitors.now.clients.places
    c.next.new.self.clients.places c.leave.new.self.clients.places c.args.at _ _ c.in_ok-event.event c.in-Played.place
    c.in-Played.transcript c.in_ok-event.ensures.plays c.in_ok-event.ensures.stands c.in-Played.is
    c.if-place-at.true

pub returns-else-place-at-clause-runs : goal.returns-else-place-at-clause-runs
returns-else-place-at-clause-runs g c = on_played _ g.L.Client.NonBlocking.did c.args.visitors.now.clients.places
    c.next.new.self.clients.places c.leave.new.self.clients.places c.args.at _ _ c.in_ok-event.event
    c.in_ok-event.ensures.plays c.leave.ensures.plays c.in-Played.place c.in-Played.transcript c.in-Played.is
    c.if-place-at.false

pub returns-else-place-at-2-clause-runs : goal.returns-else-place-at-2-clause-runs
returns-else-place-at-2-clause-runs g c = on_gone _ g.L.Client.NonBlocking.did c.args.visitors.now.clients.places
    c.next.new.self.clients.places c.leave-in-Gone.new.self.clients.places c.args.at _ _ c.in_ok-event.event
    c.in_ok-event.ensures.plays c.leave-in-Gone.ensures.plays c.in-Gone.place _ c.in-Gone.is c.if-place-at-2.false

pub admit-requires-clause-came : goal.admit-requires-clause-came
admit-requires-clause-came g c = decided_now g.L.Client.NonBlocking.did g.L.Listener.did g.P.Poller.time
    c.args.round.rules.now c.args.visitors.now c.next.new.self None c.in_ok-event.event
    c.in_ok-event.ensures.happened c.in_ok-event.ensures.stay c.requires.are c.in-Decided.place
    c.in-Decided.admission c.in-Decided.is

pub returns-in_ok-admit-in-Decided-clause-runs : goal.returns-in_ok-admit-in-Decided-clause-runs
returns-in_ok-admit-in-Decided-clause-runs g c = on_decided _ g.L.Client.NonBlocking.did
    c.args.visitors.now.clients.places c.next.new.self.clients.places c.admit.new.visitors.clients.places c.args.at _ _
    c.in_ok-event.event c.in_ok-event.ensures.plays c.admit.ensures.plays c.in-Decided.place c.in-Decided.admission
    c.in-Decided.is

pub returns-in-TooLate-clause-runs : goal.returns-in-TooLate-clause-runs
returns-in-TooLate-clause-runs g c = on_late _ g.L.Client.NonBlocking.did c.args.visitors.now.clients.places
    c.next.new.self.clients.places c.next.new.self.clients.places c.args.at _ _ c.in_ok-event.event
    c.in_ok-event.ensures.plays (λ at start stream happened plays. plays) c.in-TooLate.is

pub returns-in-Full-clause-runs : goal.returns-in-Full-clause-runs
returns-in-Full-clause-runs g c = on_full _ g.L.Client.NonBlocking.did c.args.visitors.now.clients.places
    c.next.new.self.clients.places c.next.new.self.clients.places c.args.at _ _ c.in_ok-event.event
    c.in_ok-event.ensures.plays (λ at start stream happened plays. plays) _ c.in-Full.is

pub returns-in-Deaf-clause-runs : goal.returns-in-Deaf-clause-runs
returns-in-Deaf-clause-runs g c = on_deaf _ g.L.Client.NonBlocking.did c.args.visitors.now.clients.places
    c.next.new.self.clients.places c.next.new.self.clients.places c.args.at _ _ c.in_ok-event.event
    c.in_ok-event.ensures.plays (λ at start stream happened plays. plays) _ c.in-Deaf.is

pub returns-then-place-at-clause-held : goal.returns-then-place-at-clause-held
returns-then-place-at-clause-held g c = held_same g.L.Client.NonBlocking.did c.leave.new.self c.wait_anew.new.self
    c.wait_anew.ensures.clients c.wait_anew.ensures.queue.0 (held_played g.L.Client.NonBlocking.did c.args.visitors.now
    c.next.new.self c.leave.new.self c.in_ok-event.event c.in_ok-event.ensures.stay c.in_ok-event.ensures.held
    c.in_ok-event.ensures.fresh c.requires.held c.in-Played.place c.in-Played.transcript c.in-Played.is
    c.leave.ensures.held)

pub returns-else-place-at-clause-held : goal.returns-else-place-at-clause-held
returns-else-place-at-clause-held g c = held_played g.L.Client.NonBlocking.did c.args.visitors.now
    c.next.new.self c.leave.new.self c.in_ok-event.event c.in_ok-event.ensures.stay c.in_ok-event.ensures.held
    c.in_ok-event.ensures.fresh c.requires.held c.in-Played.place c.in-Played.transcript c.in-Played.is
    c.leave.ensures.held

pub returns-else-place-at-2-clause-held : goal.returns-else-place-at-2-clause-held
returns-else-place-at-2-clause-held g c = held_gone g.L.Client.NonBlocking.did c.args.visitors.now
    c.next.new.self c.leave-in-Gone.new.self c.in_ok-event.event c.in_ok-event.ensures.stay
    c.in_ok-event.ensures.held c.in_ok-event.ensures.fresh c.requires.held c.in-Gone.place _ c.in-Gone.is
    c.leave-in-Gone.ensures.held

pub returns-in_ok-admit-in-Decided-clause-held : goal.returns-in_ok-admit-in-Decided-clause-held
returns-in_ok-admit-in-Decided-clause-held g c = held_decided g.L.Client.NonBlocking.did c.args.visitors.now
    c.next.new.self c.admit.new.visitors c.in_ok-event.event c.in_ok-event.ensures.stay c.in_ok-event.ensures.held
    c.in_ok-event.ensures.fresh c.requires.held c.in-Decided.place c.in-Decided.admission c.in-Decided.is
    c.in_ok-event.ensures.holds c.in_ok-admit-in-Decided.ensures.held

pub returns-in-TooLate-clause-held : goal.returns-in-TooLate-clause-held
returns-in-TooLate-clause-held g c = held_next g.L.Client.NonBlocking.did c.args.visitors.now c.next.new.self
    c.in_ok-event.ensures.stay c.in_ok-event.ensures.held c.requires.held

pub returns-in-Full-clause-held : goal.returns-in-Full-clause-held
returns-in-Full-clause-held g c = held_next g.L.Client.NonBlocking.did c.args.visitors.now c.next.new.self
    c.in_ok-event.ensures.stay c.in_ok-event.ensures.held c.requires.held

pub returns-in-Deaf-clause-held : goal.returns-in-Deaf-clause-held
returns-in-Deaf-clause-held g c = held_next g.L.Client.NonBlocking.did c.args.visitors.now c.next.new.self
    c.in_ok-event.ensures.stay c.in_ok-event.ensures.held c.requires.held

pub returns-then-place-at-clause-queue : goal.returns-then-place-at-clause-queue
returns-then-place-at-clause-queue g c = waits_same c.args.visitors.now.waiting c.wait_anew.new.self.waiting
    (c.wait_anew.ensures.queue.0 ∙ (c.leave.ensures.waiting ∙ c.in_ok-event.ensures.stay.waiting))

pub returns-else-place-at-clause-queue : goal.returns-else-place-at-clause-queue
returns-else-place-at-clause-queue g c = waits_same c.args.visitors.now.waiting c.leave.new.self.waiting
    (c.leave.ensures.waiting ∙ c.in_ok-event.ensures.stay.waiting)

pub returns-else-place-at-2-clause-queue : goal.returns-else-place-at-2-clause-queue
returns-else-place-at-2-clause-queue g c = waits_same c.args.visitors.now.waiting c.leave-in-Gone.new.self.waiting
    (c.leave-in-Gone.ensures.waiting ∙ c.in_ok-event.ensures.stay.waiting)

pub returns-in-TooLate-clause-queue : goal.returns-in-TooLate-clause-queue
returns-in-TooLate-clause-queue g c = waits_same c.args.visitors.now.waiting c.next.new.self.waiting
    c.in_ok-event.ensures.stay.waiting

pub returns-in-Full-clause-queue : goal.returns-in-Full-clause-queue
returns-in-Full-clause-queue g c = waits_same c.args.visitors.now.waiting c.next.new.self.waiting
    c.in_ok-event.ensures.stay.waiting

pub returns-in-Deaf-clause-queue : goal.returns-in-Deaf-clause-queue
returns-in-Deaf-clause-queue g c = waits_same c.args.visitors.now.waiting c.next.new.self.waiting
    c.in_ok-event.ensures.stay.waiting

pub returns-in_ok-admit-in-Decided-clause-queue : goal.returns-in_ok-admit-in-Decided-clause-queue
returns-in_ok-admit-in-Decided-clause-queue g c = waits_then c.args.visitors.now.waiting.items
    c.next.new.self.waiting.items c.admit.new.visitors.waiting.items
    (waits_same c.args.visitors.now.waiting c.next.new.self.waiting c.in_ok-event.ensures.stay.waiting)
    (waits_admitted g.L.Client.NonBlocking.did c.args.round.rules.now c.args.round.standing.now c.in-Decided.place
    c.in-Decided.admission c.next.new.self c.admit.new.visitors c.in_ok-admit-in-Decided.ensures.admitted)
