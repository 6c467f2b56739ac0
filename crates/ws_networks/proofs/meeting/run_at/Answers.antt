-- The addresses of the name were tried, or it has none.
use Rattle.std.proofs.Common.{◌∙◌, ap, refl, ℕ}
use Rattle.ws_networks.specs.Bounds.{bounds_from}
use Rattle.ws_networks.proofs.MeetLemmas.{met_named, met_nameless, met_of, nothing_taken}
use Rattle.ws_networks.proofs.meeting.run_at.Goals as goal

pub returns-in_ok-met-in-Ok-clause-shows : goal.returns-in_ok-met-in-Ok-clause-shows
returns-in_ok-met-in-Ok-clause-shows g c =
    let time = g.P.Poller.time in
    let shows = met_named g.M.Machine.agrees g.M.Machine.wants g.M.Machine.gives g.N.Stream.NonBlocking.did
    g.N.Network.did g.K.LineSink.heard c.args.sink.now c.meet.new.sink c.from-bounds.result c.args.errand.limits
    (time c.args.poller.now) (time c.now.new.self) (time c.meet.new.poller) c.now.ensures.later c.args.network.now
    c.look_up.new.self c.meet.new.network c.args.errand.name.now c.args.errand.machine
    (c.from-bounds.ensures ∙ ap (λ (n : ℕ). bounds_from c.args.errand.limits n) c.now.ensures.now)
    c.in-Ok.addresses.items c.in_ok-met-in-Ok.met c.in-Ok.ensures.did c.in_ok-met-in-Ok.ensures.met in
    shows

pub returns-in-Err-clause-shows : goal.returns-in-Err-clause-shows
returns-in-Err-clause-shows g c =
    let time = g.P.Poller.time in
    let shows = met_nameless g.M.Machine.agrees g.M.Machine.wants g.M.Machine.gives g.N.Stream.NonBlocking.did
    g.N.Network.did g.K.LineSink.heard c.args.sink.now c.args.sink.now c.from-bounds.result c.args.errand.limits
    (time c.args.poller.now) (time c.now.new.self) (time c.now.new.self) c.now.ensures.later c.args.network.now
    c.look_up.new.self c.look_up.new.self c.args.errand.name.now c.args.errand.machine
    (c.from-bounds.ensures ∙ ap (λ (n : ℕ). bounds_from c.args.errand.limits n) c.now.ensures.now) c.in-Err.why
    c.in-Err.ensures.did (nothing_taken g.K.LineSink.heard c.args.sink.now) in
    shows

pub returns-in_ok-met-in-Ok-clause-met : goal.returns-in_ok-met-in-Ok-clause-met
returns-in_ok-met-in-Ok-clause-met g c =
    let time = g.P.Poller.time in
    let shows = met_named g.M.Machine.agrees g.M.Machine.wants g.M.Machine.gives g.N.Stream.NonBlocking.did
    g.N.Network.did g.K.LineSink.heard c.args.sink.now c.meet.new.sink c.from-bounds.result c.args.errand.limits
    (time c.args.poller.now) (time c.now.new.self) (time c.meet.new.poller) c.now.ensures.later c.args.network.now
    c.look_up.new.self c.meet.new.network c.args.errand.name.now c.args.errand.machine
    (c.from-bounds.ensures ∙ ap (λ (n : ℕ). bounds_from c.args.errand.limits n) c.now.ensures.now)
    c.in-Ok.addresses.items c.in_ok-met-in-Ok.met c.in-Ok.ensures.did c.in_ok-met-in-Ok.ensures.met in
    met_of g.M.Machine.agrees g.M.Machine.wants g.N.Stream.NonBlocking.did g.K.LineSink.heard c.args.sink.now
    c.meet.new.sink g.M.Machine.gives g.N.Network.did c.args.errand.limits (time c.args.poller.now)
    (time c.meet.new.poller) c.args.network.now c.meet.new.network c.args.errand.name.now c.args.errand.machine
    c.in_ok-met-in-Ok.met shows

pub returns-in-Err-clause-met : goal.returns-in-Err-clause-met
returns-in-Err-clause-met g c =
    let time = g.P.Poller.time in
    let shows = met_nameless g.M.Machine.agrees g.M.Machine.wants g.M.Machine.gives g.N.Stream.NonBlocking.did
    g.N.Network.did g.K.LineSink.heard c.args.sink.now c.args.sink.now c.from-bounds.result c.args.errand.limits
    (time c.args.poller.now) (time c.now.new.self) (time c.now.new.self) c.now.ensures.later c.args.network.now
    c.look_up.new.self c.look_up.new.self c.args.errand.name.now c.args.errand.machine
    (c.from-bounds.ensures ∙ ap (λ (n : ℕ). bounds_from c.args.errand.limits n) c.now.ensures.now) c.in-Err.why
    c.in-Err.ensures.did (nothing_taken g.K.LineSink.heard c.args.sink.now) in
    shows.1
