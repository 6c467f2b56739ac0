-- All that is played goes on; where the loop is stopped nothing is known of it.
use Rattle.std.proofs.Common.{subst, sym}
use Rattle.ws_clients.specs.Numbers.{AreNumbersSound}
use Rattle.ws_clients.specs.Talks.{wants_talk}
use Rattle.ws_clients.proofs.ClientLemmas.{come_so, goes_run, sound_run, sound_stopped}
use Rattle.ws_clients.proofs.KindLemmas.{numbers_run, numbers_stopped, runs_only}
use Rattle.ws_clients.proofs.ServedLemmas.{all_run}
use Rattle.ws_clients.proofs.clients.run_all.Goals as goal

pub returns-in-Ok-clause-arrived : goal.returns-in-Ok-clause-arrived
returns-in-Ok-clause-arrived g c = come_so (wants_talk g.M.Machine.wants) g.L.Client.NonBlocking.did g.L.Listener.did
    c.args.until (g.P.Poller.time c.run_listening.new.poller) c.args.listener.now c.run_listening.new.listener
    c.run_listening.new.self c.in-Ok.arrival c.in-Ok.ensures.arrived c.in-Ok.ensures.asked

pub returns-in-Ok-clause-plays : goal.returns-in-Ok-clause-plays
returns-in-Ok-clause-plays g c = goes_run g.M.Machine.agrees g.L.Client.NonBlocking.did g.K.LineSink.heard
    (wants_talk g.M.Machine.wants) (g.P.Poller.time c.args.poller.now) (g.P.Poller.time c.run_listening.new.poller)
    c.args.inside.now.all.places c.run_listening.new.self.places c.args.sink.now c.run_listening.new.sink
    c.in-Ok.ensures.run

pub returns-in-Ok-clause-whole : goal.returns-in-Ok-clause-whole
returns-in-Ok-clause-whole g c = sound_run g.M.Machine.agrees g.L.Client.NonBlocking.did (wants_talk g.M.Machine.wants)
    g.K.LineSink.heard (g.P.Poller.time c.args.poller.now) (g.P.Poller.time c.run_listening.new.poller) _
    c.args.inside.now.all c.run_listening.new.self c.args.inside.now.held.items c.args.inside.now.is_broken
    c.args.sink.now c.run_listening.new.sink c.in-Ok.ensures.kinds c.in-Ok.ensures.run c.requires.whole

pub returns-in-Err-clause-whole : goal.returns-in-Err-clause-whole
returns-in-Err-clause-whole g c = sound_stopped g.M.Machine.agrees g.L.Client.NonBlocking.did _ c.args.inside.now.all
    c.run_listening.new.self c.args.inside.now.held.items c.args.inside.now.is_broken c.in-Err.ensures.kinds
    c.requires.whole

pub returns-in-Ok-clause-only : goal.returns-in-Ok-clause-only
returns-in-Ok-clause-only g c = runs_only g.M.Machine.agrees g.L.Client.NonBlocking.did (wants_talk g.M.Machine.wants)
    g.K.LineSink.heard (g.P.Poller.time c.args.poller.now) (g.P.Poller.time c.run_listening.new.poller) _
    c.args.inside.now.all.places c.run_listening.new.self.places c.args.sink.now c.run_listening.new.sink
    c.in-Ok.ensures.kinds c.in-Ok.ensures.run (c.requires.whole.talks c.requires.runs)

pub returns-in-Ok-clause-counted : goal.returns-in-Ok-clause-counted
returns-in-Ok-clause-counted g c = subst (λ b. AreNumbersSound c.run_listening.new.self.places
    c.args.inside.now.taken c.args.inside.now.numbers.items b) (sym c.requires.runs)
    (numbers_run g.M.Machine.agrees g.L.Client.NonBlocking.did (wants_talk g.M.Machine.wants)
    g.K.LineSink.heard (g.P.Poller.time c.args.poller.now) (g.P.Poller.time c.run_listening.new.poller) _
    c.args.inside.now.all.places c.run_listening.new.self.places c.args.sink.now c.run_listening.new.sink
    c.in-Ok.ensures.kinds c.in-Ok.ensures.run (c.requires.whole.talks c.requires.runs) c.args.inside.now.taken
    c.args.inside.now.numbers.items
    (subst (λ b. AreNumbersSound c.args.inside.now.all.places c.args.inside.now.taken c.args.inside.now.numbers.items b)
    c.requires.runs c.requires.counted))

pub returns-in-Err-clause-counted : goal.returns-in-Err-clause-counted
returns-in-Err-clause-counted g c = numbers_stopped c.args.inside.now.all.places c.run_listening.new.self.places
    c.args.inside.now.taken c.args.inside.now.numbers.items c.args.inside.now.is_broken c.in-Err.ensures.kinds
    c.requires.counted

pub returns-in-Ok-clause-goes_on : goal.returns-in-Ok-clause-goes_on
returns-in-Ok-clause-goes_on g c = all_run g.M.Machine.agrees g.M.Machine.wants g.L.Client.NonBlocking.did
    g.K.LineSink.heard (g.P.Poller.time c.args.poller.now) (g.P.Poller.time c.run_listening.new.poller)
    c.args.inside.now.all.places c.run_listening.new.self.places c.args.sink.now c.run_listening.new.sink
    c.in-Ok.ensures.run
