-- What is played goes on until its client waits, and what has come of it is told.
use Rattle.std.proofs.Common.{None, Ok, Some, rules, subst, ◌≡◌}
use Rattle.wst_clients.specs.ClientSends.{EndsInPlace}
use Rattle.wst_clients.proofs.SendLemmas.{plays_first, plays_on, plays_out}
use Rattle.wst_clients.proofs.sending_to_client.play_alone.Goals as goal

pub loop-left-init : goal.loop-left-init
loop-left-init g c =
    let (stream, held, plays) = c.play.ensures.played (search rules) in record {
      plays = plays_first g.K.LineSink.heard g.M.Machine.agrees g.L.Client.NonBlocking.did
          c.args.visitors.now.clients.held c.args.at c.args.machine stream c.play.new.self.clients.places c.args.sink.now
          held plays;
    }

pub loop-left-preserved : goal.loop-left-preserved
loop-left-preserved g c =
    let at = c.loop-left in
    let none : c.end_of.result ≡ None = search rules in record {
      plays = plays_on g.K.LineSink.heard g.M.Machine.agrees g.L.Client.NonBlocking.did g.M.Machine.gives
          c.args.visitors.now.clients.held c.args.at c.args.machine at.visitors.clients.places c.next.new.self.clients.places c.end_of.new.visitors.clients.places
          c.args.sink.now at.sink c.next.new.sink c.in_ok-event.event
          (subst (λ r. EndsInPlace c.args.at c.in_ok-event.event r) none c.end_of.ensures.ends) at.invariant.plays
          c.in_ok-event.ensures.plays c.end_of.ensures.plays;
    }

pub returns-in-Some : goal.returns-in-Some
returns-in-Some g c =
    let at = c.loop-left in
    let end = c.in_ok-end.end in
    let ended : c.end_of.result ≡ Some (Ok end) = search rules in record {
      ends = plays_out g.K.LineSink.heard g.M.Machine.agrees g.L.Client.NonBlocking.did g.M.Machine.gives
          c.args.visitors.now.clients.held c.args.at c.args.machine at.visitors.clients.places c.next.new.self.clients.places c.args.sink.now at.sink
          c.next.new.sink c.in_ok-event.event end at.invariant.plays
          (subst (λ r. EndsInPlace c.args.at c.in_ok-event.event r) ended c.end_of.ensures.ends)
          c.in_ok-event.ensures.stands c.in_ok-event.ensures.plays;
    }
