-- One more stands last.
use Rattle.std.proofs.Common.{◌∙◌, ap}
use Rattle.ws_networks.specs.Bounds.{bounds_from}
use Rattle.wst_at_once.proofs.ConnectLemmas.{when_begun, when_missed}
use Rattle.wst_at_once.proofs.crowd.Crowd.connect.Goals as goal

pub begin-requires-clause-free : goal.begin-requires-clause-free
begin-requires-clause-free g c = c.requires.free

pub begin-requires-clause-untold : goal.begin-requires-clause-untold
begin-requires-clause-untold g c = c.requires.untold

pub begin-requires-clause-goes_on : goal.begin-requires-clause-goes_on
begin-requires-clause-goes_on g c = c.requires.goes_on

pub returns-in-Ok-clause-connects : goal.returns-in-Ok-clause-connects
returns-in-Ok-clause-connects g c =
    let bound = c.from.ensures ∙ ap (λ l. bounds_from l c.now-now.result) c.limits.ensures in
    when_begun g.C.Stream.NonBlocking.did c.args.self.now.terms.server.now c.begin.result c.args.self.now.errands
    c.begin.new.self (g.C.Poller.Poller.time c.args.poller.now) (g.C.Poller.Poller.time c.now-now.new.self) c.now-now.result
    c.from.result c.args.machine c.now-now.ensures.later c.now-now.ensures.now bound c.begin.ensures.len c.begin.ensures.begun
    c.begin.ensures.others c.begin.ensures.more c.begin.ensures.at_once c.begin.ensures.places

pub returns-in-Err-clause-connects : goal.returns-in-Err-clause-connects
returns-in-Err-clause-connects g c = when_missed g.C.Stream.NonBlocking.did c.args.self.now.terms.server.now
    c.miss.result c.args.self.now.errands c.miss.new.self (g.C.Poller.Poller.time c.args.poller.now)
    (g.C.Poller.Poller.time c.now-now.new.self) _ c.args.machine c.now-now.ensures.later c.requires.untold c.miss.ensures.last
    c.miss.ensures.standings c.miss.ensures.at_once
