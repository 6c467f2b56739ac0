-- All that is played goes on until something arrives, and what has come of that is told.
use Rattle.std.proofs.Common.{◌∙◌, ap, arith, map, refl, subst, None, Some}
use Rattle.ws_clients.specs.Numbers.{IsNoMore}
use Rattle.ws_clients.specs.Clients.{clients_value, held_streams}
use Rattle.ws_clients.specs.Talks.{wants_talk}
use Rattle.ws_clients.specs.declared.clients.Event.TheVariants.{TooLate}
use Rattle.ws_clients.proofs.ClientLemmas.{became_no_more, became_so, client_came, deaf_came, no_more_fresh, no_more_holds}
use Rattle.ws_clients.proofs.KindLemmas.{none_waits_there, only_so, only_then}
use Rattle.ws_clients.proofs.NumberLemmas.{no_reason, takes_client, takes_deaf, takes_ended, takes_late, takes_lost}
use Rattle.ws_clients.proofs.ClientLemmas.{no_more_only, no_more_played, no_more_stands, ended_later, ends_on, goes_then, holds_so, keeps_on, keeps_same}
use Rattle.ws_clients.proofs.ClientLemmas.{late_came, newly_so, over_came, same_known, stay_kept, stay_then}
use Rattle.ws_clients.proofs.ServedLemmas.{serves_now, settles_ended, settles_filled, settles_still}
use Rattle.ws_clients.proofs.clients.wait_inside.Goals as goal

pub ended_at-requires-clause-over : goal.ended_at-requires-clause-over
ended_at-requires-clause-over g c = over_came (wants_talk g.M.Machine.wants) g.L.Client.NonBlocking.did g.L.Listener.did
    c.args.until (g.P.Poller.time c.run_all.new.poller) c.run_all.new.listener c.run_all.new.inside.all
    c.in_ok-arrival.arrival c.in-Ended.at c.in-Ended.is c.in_ok-arrival.ensures.arrived

pub ended_at-requires-clause-runs : goal.ended_at-requires-clause-runs
ended_at-requires-clause-runs g c = c.in_ok-arrival.ensures.runs ∙ c.requires.runs

pub receive-requires-clause-empty : goal.receive-requires-clause-empty
receive-requires-clause-empty g c = (client_came (wants_talk g.M.Machine.wants) g.L.Client.NonBlocking.did
    g.L.Listener.did c.args.until (g.P.Poller.time c.run_all.new.poller) c.run_all.new.listener
    c.run_all.new.inside.all c.in_ok-arrival.arrival c.in-Client.at c.in-Client.stream c.in-Client.is
    c.in_ok-arrival.ensures.arrived).0

pub receive-requires-clause-fresh : goal.receive-requires-clause-fresh
receive-requires-clause-fresh g c = (client_came (wants_talk g.M.Machine.wants) g.L.Client.NonBlocking.did
    g.L.Listener.did c.args.until (g.P.Poller.time c.run_all.new.poller) c.run_all.new.listener
    c.run_all.new.inside.all c.in_ok-arrival.arrival c.in-Client.at c.in-Client.stream c.in-Client.is
    c.in_ok-arrival.ensures.arrived).1

pub returns-in_ok-came-in-Ended-clause-happened : goal.returns-in_ok-came-in-Ended-clause-happened
returns-in_ok-came-in-Ended-clause-happened g c = became_so g.L.Client.NonBlocking.did g.L.Listener.did
    (g.P.Poller.time c.now-now.new.self) c.args.until c.run_all.new.listener
    (clients_value (map (λ name. name.now) c.ended_at.new.inside.known.now) c.ended_at.new.inside.limits
    c.ended_at.new.inside.all c.ended_at.new.inside.held.items c.ended_at.new.inside.taken
    c.ended_at.new.inside.numbers.items) c.in-Ended.at
    (map (λ name. name.now) c.run_all.new.inside.known.now) c.in_ok-came-in-Ended.came
    (same_known c.ended_at.new.inside.known c.run_all.new.inside.known c.ended_at.ensures.known) c.in_ok-came-in-Ended.ensures.came

pub returns-in_ok-came-in-Ended-clause-plays : goal.returns-in_ok-came-in-Ended-clause-plays
returns-in_ok-came-in-Ended-clause-plays g c = goes_then g.M.Machine.agrees g.L.Client.NonBlocking.did
    g.K.LineSink.heard g.M.Machine.gives c.args.inside.now.all.places c.run_all.new.inside.all.places
    c.ended_at.new.inside.all.places c.args.sink.now c.run_all.new.sink c.run_all.new.sink c.in_ok-came-in-Ended.came
    c.in_ok-arrival.ensures.plays
    (ends_on g.M.Machine.agrees g.L.Client.NonBlocking.did g.K.LineSink.heard g.M.Machine.gives
    c.run_all.new.inside.all.places c.ended_at.new.inside.all.places c.run_all.new.sink c.in_ok-came-in-Ended.came
    (λ at start stream happened plays. c.in_ok-came-in-Ended.ensures.plays at start stream happened plays))

pub returns-in_ok-receive-in-Client-clause-plays : goal.returns-in_ok-receive-in-Client-clause-plays
returns-in_ok-receive-in-Client-clause-plays g c = goes_then g.M.Machine.agrees g.L.Client.NonBlocking.did
    g.K.LineSink.heard g.M.Machine.gives c.args.inside.now.all.places c.run_all.new.inside.all.places
    c.receive.new.inside.all.places c.args.sink.now c.run_all.new.sink c.run_all.new.sink None
    c.in_ok-arrival.ensures.plays
    (keeps_on g.M.Machine.agrees g.L.Client.NonBlocking.did g.K.LineSink.heard g.M.Machine.gives
    c.run_all.new.inside.all.places c.receive.new.inside.all.places c.run_all.new.sink None c.receive.ensures.others)

pub returns-in-Lost-clause-plays : goal.returns-in-Lost-clause-plays
returns-in-Lost-clause-plays g c = goes_then g.M.Machine.agrees g.L.Client.NonBlocking.did
    g.K.LineSink.heard g.M.Machine.gives c.args.inside.now.all.places c.run_all.new.inside.all.places
    c.run_all.new.inside.all.places c.args.sink.now c.run_all.new.sink c.run_all.new.sink None
    c.in_ok-arrival.ensures.plays
    (keeps_on g.M.Machine.agrees g.L.Client.NonBlocking.did g.K.LineSink.heard g.M.Machine.gives
    c.run_all.new.inside.all.places c.run_all.new.inside.all.places c.run_all.new.sink None
    (keeps_same g.M.Machine.agrees g.L.Client.NonBlocking.did c.run_all.new.inside.all.places
    c.run_all.new.inside.all.places refl))

pub returns-in-NotAccepted-clause-plays : goal.returns-in-NotAccepted-clause-plays
returns-in-NotAccepted-clause-plays g c = goes_then g.M.Machine.agrees g.L.Client.NonBlocking.did
    g.K.LineSink.heard g.M.Machine.gives c.args.inside.now.all.places c.run_all.new.inside.all.places
    c.run_all.new.inside.all.places c.args.sink.now c.run_all.new.sink c.run_all.new.sink (Some c.deaf_by.result)
    c.in_ok-arrival.ensures.plays
    (keeps_on g.M.Machine.agrees g.L.Client.NonBlocking.did g.K.LineSink.heard g.M.Machine.gives
    c.run_all.new.inside.all.places c.run_all.new.inside.all.places c.run_all.new.sink (Some c.deaf_by.result)
    (keeps_same g.M.Machine.agrees g.L.Client.NonBlocking.did c.run_all.new.inside.all.places
    c.run_all.new.inside.all.places refl))

pub returns-in-TooLate-clause-happened : goal.returns-in-TooLate-clause-happened
returns-in-TooLate-clause-happened g c =
    let late = late_came (wants_talk g.M.Machine.wants) g.L.Client.NonBlocking.did g.L.Listener.did c.args.until
    (g.P.Poller.time c.run_all.new.poller) c.run_all.new.listener c.run_all.new.inside.all c.in_ok-arrival.arrival
    c.in-TooLate.is c.in_ok-arrival.ensures.arrived in (
      ended_later c.args.until (g.P.Poller.time c.run_all.new.poller) (g.P.Poller.time c.now-now.new.self)
          c.now-now.ensures.later late.0,
      late.1,
    )

pub returns-in-TooLate-clause-plays : goal.returns-in-TooLate-clause-plays
returns-in-TooLate-clause-plays g c = goes_then g.M.Machine.agrees g.L.Client.NonBlocking.did
    g.K.LineSink.heard g.M.Machine.gives c.args.inside.now.all.places c.run_all.new.inside.all.places
    c.run_all.new.inside.all.places c.args.sink.now c.run_all.new.sink c.run_all.new.sink (Some TooLate)
    c.in_ok-arrival.ensures.plays
    (keeps_on g.M.Machine.agrees g.L.Client.NonBlocking.did g.K.LineSink.heard g.M.Machine.gives
    c.run_all.new.inside.all.places c.run_all.new.inside.all.places c.run_all.new.sink (Some TooLate)
    (keeps_same g.M.Machine.agrees g.L.Client.NonBlocking.did c.run_all.new.inside.all.places
    c.run_all.new.inside.all.places refl))

pub returns-in_ok-came-in-Ended-clause-holds : goal.returns-in_ok-came-in-Ended-clause-holds
returns-in_ok-came-in-Ended-clause-holds g c = holds_so g.L.Client.NonBlocking.did
    (map (λ name. name.now) c.run_all.new.inside.known.now) (map (λ name. name.now) c.ended_at.new.inside.known.now)
    (held_streams c.ended_at.new.inside.held.items) c.in_ok-came-in-Ended.came
    (same_known c.ended_at.new.inside.known c.run_all.new.inside.known c.ended_at.ensures.known) c.in_ok-came-in-Ended.ensures.holds

pub returns-in_ok-came-in-Ended-clause-held : goal.returns-in_ok-came-in-Ended-clause-held
returns-in_ok-came-in-Ended-clause-held g c = stay_then (held_streams c.args.inside.now.held.items)
    (held_streams c.run_all.new.inside.held.items) (held_streams c.ended_at.new.inside.held.items)
    (stay_kept c.args.inside.now.held.items c.run_all.new.inside.held.items c.run_all.ensures.held)
    c.in_ok-came-in-Ended.ensures.held

pub returns-in_ok-receive-in-Client-clause-held : goal.returns-in_ok-receive-in-Client-clause-held
returns-in_ok-receive-in-Client-clause-held g c = stay_kept c.args.inside.now.held.items c.receive.new.inside.held.items
    (c.receive.ensures.held ∙ c.run_all.ensures.held)

pub returns-in-Lost-clause-held : goal.returns-in-Lost-clause-held
returns-in-Lost-clause-held g c = stay_kept c.args.inside.now.held.items c.run_all.new.inside.held.items
    c.run_all.ensures.held

pub returns-in-NotAccepted-clause-held : goal.returns-in-NotAccepted-clause-held
returns-in-NotAccepted-clause-held g c = stay_kept c.args.inside.now.held.items c.run_all.new.inside.held.items
    c.run_all.ensures.held

pub returns-in-TooLate-clause-held : goal.returns-in-TooLate-clause-held
returns-in-TooLate-clause-held g c = stay_kept c.args.inside.now.held.items c.run_all.new.inside.held.items
    c.run_all.ensures.held

pub returns-in_ok-came-in-Ended-clause-fresh : goal.returns-in_ok-came-in-Ended-clause-fresh
returns-in_ok-came-in-Ended-clause-fresh g c = newly_so c.args.inside.now.held.items c.run_all.new.inside.held.items
    c.in_ok-came-in-Ended.came c.run_all.ensures.held c.in_ok-came-in-Ended.ensures.fresh

pub returns-in-NotAccepted-clause-happened : goal.returns-in-NotAccepted-clause-happened
returns-in-NotAccepted-clause-happened g c = became_no_more g.L.Client.NonBlocking.did g.L.Listener.did
    (g.P.Poller.time c.now-now.new.self) c.args.until c.run_all.new.listener
    (clients_value (map (λ name. name.now) c.run_all.new.inside.known.now) c.run_all.new.inside.limits
    c.run_all.new.inside.all c.run_all.new.inside.held.items c.run_all.new.inside.taken
    c.run_all.new.inside.numbers.items) 0 c.as_slice.result.now
    c.in-NotAccepted.why c.deaf_by.result
    (deaf_came (wants_talk g.M.Machine.wants) g.L.Client.NonBlocking.did g.L.Listener.did c.args.until
    (g.P.Poller.time c.run_all.new.poller) c.run_all.new.listener c.run_all.new.inside.all c.in_ok-arrival.arrival
    c.in-NotAccepted.why c.in-NotAccepted.is c.in_ok-arrival.ensures.arrived) c.deaf_by.ensures

pub returns-in-NotAccepted-clause-stands : goal.returns-in-NotAccepted-clause-stands
returns-in-NotAccepted-clause-stands g c = no_more_stands c.as_slice.result.now c.in-NotAccepted.why
    c.run_all.new.inside.all.places c.deaf_by.result c.deaf_by.ensures

pub returns-in-NotAccepted-clause-holds : goal.returns-in-NotAccepted-clause-holds
returns-in-NotAccepted-clause-holds g c = no_more_holds c.as_slice.result.now c.in-NotAccepted.why
    g.L.Client.NonBlocking.did (map (λ name. name.now) c.run_all.new.inside.known.now)
    (held_streams c.run_all.new.inside.held.items) c.deaf_by.result c.deaf_by.ensures

pub returns-in-NotAccepted-clause-fresh : goal.returns-in-NotAccepted-clause-fresh
returns-in-NotAccepted-clause-fresh g c = no_more_fresh c.as_slice.result.now c.in-NotAccepted.why
    (held_streams c.args.inside.now.held.items) c.deaf_by.result c.deaf_by.ensures

pub returns-in-NotAccepted-clause-played : goal.returns-in-NotAccepted-clause-played
returns-in-NotAccepted-clause-played g c = no_more_played c.as_slice.result.now c.in-NotAccepted.why
    g.L.Client.NonBlocking.did g.M.Machine.gives (held_streams c.run_all.new.inside.held.items) c.deaf_by.result
    c.deaf_by.ensures

pub returns-in-NotAccepted-clause-only : goal.returns-in-NotAccepted-clause-only
returns-in-NotAccepted-clause-only g c = no_more_only c.as_slice.result.now c.in-NotAccepted.why
    c.args.inside.now.all.places c.run_all.new.inside.all.places c.deaf_by.result c.deaf_by.ensures
    c.in_ok-arrival.ensures.only

pub returns-in-NotAccepted-clause-takes : goal.returns-in-NotAccepted-clause-takes
returns-in-NotAccepted-clause-takes g c = takes_deaf g.L.Listener.did c.args.listener.now c.run_all.new.listener
    c.run_all.new.inside.all c.in_ok-arrival.arrival c.in_ok-arrival.ensures.asked c.in-NotAccepted.why
    c.args.inside.now.taken c.args.inside.now.numbers.items c.run_all.new.inside.taken
    c.run_all.new.inside.numbers.items c.deaf_by.result c.in-NotAccepted.is c.run_all.ensures.taken
    (ap (λ v. v.items) c.run_all.ensures.numbers)
    (subst (λ l. IsNoMore l c.in-NotAccepted.why c.deaf_by.result) c.as_slice.ensures.value c.deaf_by.ensures)

pub returns-in-TooLate-clause-only : goal.returns-in-TooLate-clause-only
returns-in-TooLate-clause-only g c = (c.in_ok-arrival.ensures.only, tt)

pub returns-in-TooLate-clause-takes : goal.returns-in-TooLate-clause-takes
returns-in-TooLate-clause-takes g c = takes_late g.L.Listener.did c.args.listener.now c.run_all.new.listener
    c.run_all.new.inside.all c.in_ok-arrival.arrival c.in_ok-arrival.ensures.asked
    c.args.inside.now.taken c.args.inside.now.numbers.items c.run_all.new.inside.taken
    c.run_all.new.inside.numbers.items c.in-TooLate.is c.run_all.ensures.taken
    (ap (λ v. v.items) c.run_all.ensures.numbers)

pub returns-in-Lost-clause-takes : goal.returns-in-Lost-clause-takes
returns-in-Lost-clause-takes g c = takes_lost g.L.Listener.did c.args.listener.now c.run_all.new.listener
    c.run_all.new.inside.all c.in_ok-arrival.arrival c.in_ok-arrival.ensures.asked c.in-Lost.field-0
    c.args.inside.now.taken c.args.inside.now.numbers.items c.run_all.new.inside.taken
    c.run_all.new.inside.numbers.items c.in-Lost.is c.run_all.ensures.taken
    (ap (λ v. v.items) c.run_all.ensures.numbers)

pub returns-in_ok-came-in-Ended-clause-only : goal.returns-in_ok-came-in-Ended-clause-only
returns-in_ok-came-in-Ended-clause-only g c = only_so c.args.inside.now.all.places c.run_all.new.inside.all.places
    c.ended_at.new.inside.all.places c.in_ok-came-in-Ended.came c.in_ok-arrival.ensures.only
    c.in_ok-came-in-Ended.ensures.only

pub returns-in_ok-came-in-Ended-clause-takes : goal.returns-in_ok-came-in-Ended-clause-takes
returns-in_ok-came-in-Ended-clause-takes g c = takes_ended g.L.Listener.did c.args.listener.now
    c.run_all.new.listener c.run_all.new.inside.all c.in_ok-arrival.arrival c.in_ok-arrival.ensures.asked c.in-Ended.at
    c.args.inside.now.taken c.args.inside.now.numbers.items c.ended_at.new.inside.taken
    c.run_all.new.inside.numbers.items c.ended_at.new.inside.numbers.items c.in_ok-came-in-Ended.came c.in-Ended.is
    (c.ended_at.ensures.taken ∙ c.run_all.ensures.taken) (ap (λ v. v.items) c.run_all.ensures.numbers)
    c.in_ok-came-in-Ended.ensures.of c.in_ok-came-in-Ended.ensures.behind
    (no_reason g.L.Client.NonBlocking.did c.in-Ended.at _ c.in_ok-came-in-Ended.came
    c.in_ok-came-in-Ended.ensures.came)

pub receive-requires-clause-runs : goal.receive-requires-clause-runs
receive-requires-clause-runs g c = c.in_ok-arrival.ensures.runs ∙ c.requires.runs

pub returns-in_ok-receive-in-Client-clause-only : goal.returns-in_ok-receive-in-Client-clause-only
returns-in_ok-receive-in-Client-clause-only g c = only_then c.args.inside.now.all.places c.run_all.new.inside.all.places
    c.receive.new.inside.all.places c.in_ok-arrival.ensures.only c.receive.ensures.only

pub returns-in_ok-receive-in-Client-clause-takes : goal.returns-in_ok-receive-in-Client-clause-takes
returns-in_ok-receive-in-Client-clause-takes g c = takes_client g.L.Listener.did c.args.listener.now
    c.run_all.new.listener c.run_all.new.inside.all c.in_ok-arrival.arrival c.in_ok-arrival.ensures.asked
    c.in-Client.at c.in-Client.stream c.args.inside.now.taken c.args.inside.now.numbers.items
    c.run_all.new.inside.taken c.run_all.new.inside.numbers.items c.receive.new.inside.taken
    c.receive.new.inside.numbers.items c.in-Client.is c.run_all.ensures.taken
    (ap (λ v. v.items) c.run_all.ensures.numbers)
    (none_waits_there c.run_all.new.inside.all.places c.run_all.new.inside.taken c.run_all.new.inside.numbers.items
    c.run_all.new.inside.is_broken c.in-Client.at (c.in_ok-arrival.ensures.runs ∙ c.requires.runs)
    (client_came (wants_talk g.M.Machine.wants) g.L.Client.NonBlocking.did
    g.L.Listener.did c.args.until (g.P.Poller.time c.run_all.new.poller) c.run_all.new.listener
    c.run_all.new.inside.all c.in_ok-arrival.arrival c.in-Client.at c.in-Client.stream c.in-Client.is
    c.in_ok-arrival.ensures.arrived).0 c.run_all.ensures.counted)
    c.in_ok-receive-in-Client.ensures.taken c.in_ok-receive-in-Client.ensures.numbers

pub returns-in_ok-came-in-Ended-clause-goes_on : goal.returns-in_ok-came-in-Ended-clause-goes_on
returns-in_ok-came-in-Ended-clause-goes_on g c = serves_now g.M.Machine.agrees g.M.Machine.wants g.L.Client.NonBlocking.did
    (g.P.Poller.time c.args.poller.now) (g.P.Poller.time c.run_all.new.poller) (g.P.Poller.time c.now-now.new.self) _
    c.args.inside.now.all.places c.run_all.new.inside.all.places c.ended_at.new.inside.all.places c.in_ok-came-in-Ended.came
    c.now-now.ensures.later c.in_ok-arrival.ensures.goes_on (c.requires.whole.talks c.requires.runs)
    (settles_ended c.run_all.new.inside.all.places c.ended_at.new.inside.all.places c.in_ok-came-in-Ended.came c.in-Ended.at
    c.in_ok-came-in-Ended.ensures.rest (λ was is on. c.in_ok-came-in-Ended.ensures.tells was is on))

pub returns-in_ok-came-in-Ended-clause-later : goal.returns-in_ok-came-in-Ended-clause-later
returns-in_ok-came-in-Ended-clause-later g c = omega (arith, c.in_ok-arrival.ensures.later, c.now-now.ensures.later)

pub returns-in_ok-receive-in-Client-clause-goes_on : goal.returns-in_ok-receive-in-Client-clause-goes_on
returns-in_ok-receive-in-Client-clause-goes_on g c = serves_now g.M.Machine.agrees g.M.Machine.wants g.L.Client.NonBlocking.did
    (g.P.Poller.time c.args.poller.now) (g.P.Poller.time c.run_all.new.poller) (g.P.Poller.time c.now-now.new.self) _
    c.args.inside.now.all.places c.run_all.new.inside.all.places c.receive.new.inside.all.places None
    c.now-now.ensures.later c.in_ok-arrival.ensures.goes_on (c.requires.whole.talks c.requires.runs)
    (settles_filled c.run_all.new.inside.all.places c.receive.new.inside.all.places None c.in-Client.at (client_came (wants_talk g.M.Machine.wants)
    g.L.Client.NonBlocking.did g.L.Listener.did c.args.until (g.P.Poller.time c.run_all.new.poller)
    c.run_all.new.listener c.run_all.new.inside.all c.in_ok-arrival.arrival c.in-Client.at c.in-Client.stream
    c.in-Client.is c.in_ok-arrival.ensures.arrived).0 c.receive.ensures.rest)

pub returns-in_ok-receive-in-Client-clause-later : goal.returns-in_ok-receive-in-Client-clause-later
returns-in_ok-receive-in-Client-clause-later g c = omega (arith, c.in_ok-arrival.ensures.later, c.now-now.ensures.later)

pub returns-in-Lost-clause-goes_on : goal.returns-in-Lost-clause-goes_on
returns-in-Lost-clause-goes_on g c = serves_now g.M.Machine.agrees g.M.Machine.wants g.L.Client.NonBlocking.did
    (g.P.Poller.time c.args.poller.now) (g.P.Poller.time c.run_all.new.poller) (g.P.Poller.time c.now-now.new.self) _
    c.args.inside.now.all.places c.run_all.new.inside.all.places c.run_all.new.inside.all.places None
    c.now-now.ensures.later c.in_ok-arrival.ensures.goes_on (c.requires.whole.talks c.requires.runs)
    (settles_still c.run_all.new.inside.all.places c.run_all.new.inside.all.places None refl)

pub returns-in-Lost-clause-later : goal.returns-in-Lost-clause-later
returns-in-Lost-clause-later g c = omega (arith, c.in_ok-arrival.ensures.later, c.now-now.ensures.later)

pub returns-in-NotAccepted-clause-goes_on : goal.returns-in-NotAccepted-clause-goes_on
returns-in-NotAccepted-clause-goes_on g c = serves_now g.M.Machine.agrees g.M.Machine.wants g.L.Client.NonBlocking.did
    (g.P.Poller.time c.args.poller.now) (g.P.Poller.time c.run_all.new.poller) (g.P.Poller.time c.now-now.new.self) _
    c.args.inside.now.all.places c.run_all.new.inside.all.places c.run_all.new.inside.all.places (Some c.deaf_by.result)
    c.now-now.ensures.later c.in_ok-arrival.ensures.goes_on (c.requires.whole.talks c.requires.runs)
    (settles_still c.run_all.new.inside.all.places c.run_all.new.inside.all.places (Some c.deaf_by.result) refl)

pub returns-in-NotAccepted-clause-later : goal.returns-in-NotAccepted-clause-later
returns-in-NotAccepted-clause-later g c = omega (arith, c.in_ok-arrival.ensures.later, c.now-now.ensures.later)

pub returns-in-TooLate-clause-goes_on : goal.returns-in-TooLate-clause-goes_on
returns-in-TooLate-clause-goes_on g c = serves_now g.M.Machine.agrees g.M.Machine.wants g.L.Client.NonBlocking.did
    (g.P.Poller.time c.args.poller.now) (g.P.Poller.time c.run_all.new.poller) (g.P.Poller.time c.now-now.new.self) _
    c.args.inside.now.all.places c.run_all.new.inside.all.places c.run_all.new.inside.all.places (Some TooLate)
    c.now-now.ensures.later c.in_ok-arrival.ensures.goes_on (c.requires.whole.talks c.requires.runs)
    (settles_still c.run_all.new.inside.all.places c.run_all.new.inside.all.places (Some TooLate) refl)

pub returns-in-TooLate-clause-later : goal.returns-in-TooLate-clause-later
returns-in-TooLate-clause-later g c = omega (arith, c.in_ok-arrival.ensures.later, c.now-now.ensures.later)
