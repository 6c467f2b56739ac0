-- Each place comes on by rounds, and by what is asked for a connection, until something has ended.
use Rattle.std.proofs.Common.{◌∙◌, arith, rules, subst, sym, ℕ}
use Rattle.std.proofs.lemmas.Bool.{false≢true}
use Rattle.ws_loops.specs.Looping.{IsEnding}
use Rattle.ws_loops.proofs.LoopLemmas.{keep_still, keep_then}
use Rattle.ws_networks.specs.NetworkLoops.{HasAskedAt, IsTryingAt, network_value, outbound_by}
use Rattle.ws_networks.proofs.BoardLemmas.{ask_comes, by_other, comes_still, comes_then, ended_so, run_comes, sound_run}
use Rattle.ws_networks.proofs.BoardLemmas.{served_there, turns_asked, turns_run}
use Rattle.ws_networks.proofs.network_loop.run_board.Goals as goal

pub loop-left-init : goal.loop-left-init
loop-left-init g c =
    let value = network_value c.args.board.now.all c.args.board.now.outbound.items in
    record {
      room = c.requires.room;
      whole = c.requires.whole;
      run = comes_still g.M.Machine.agrees g.M.Machine.wants g.N.Stream.NonBlocking.did g.K.LineSink.heard
          g.N.Network.did (g.P.Poller.time c.args.poller.now) (g.P.Poller.time c.args.poller.now) value.standings
          c.args.sink.now c.args.network.now (omega arith);
      turns = keep_still value.tickets;
    }

pub returns-in_err-ending-clause-whole : goal.returns-in_err-ending-clause-whole
returns-in_err-ending-clause-whole g c = sound_run g.M.Machine.agrees g.M.Machine.wants g.N.Stream.NonBlocking.did
    c.loop-left.board.all c.run.new.self c.loop-left.board.outbound.items c.in_err-ending.ensures.kinds
    c.loop-left.invariant.whole

pub returns-then-not-is_trying-clause-run : goal.returns-then-not-is_trying-clause-run
returns-then-not-is_trying-clause-run g c =
    let agrees = g.M.Machine.agrees in
    let wants = g.M.Machine.wants in
    let did = g.N.Stream.NonBlocking.did in
    let heard = g.K.LineSink.heard in
    let does = g.N.Network.did in
    let time = g.P.Poller.time in
    let first = network_value c.args.board.now.all c.args.board.now.outbound.items in
    let before = c.loop-left.board in
    let beside = before.outbound.items in
    let old = network_value before.all beside in
    let ran = network_value c.run.new.self beside in
    let rounds = run_comes agrees wants did heard does (time c.loop-left.poller) (time c.run.new.poller) before.all
    c.run.new.self beside c.loop-left.sink c.run.new.sink c.loop-left.network c.in_ok-ending.ensures.later
    c.loop-left.invariant.whole.len c.in_ok-ending.ensures.run in
    let come = comes_then agrees wants did heard does (time c.args.poller.now) (time c.loop-left.poller)
    (time c.run.new.poller) first.standings old.standings ran.standings c.args.sink.now c.loop-left.sink c.run.new.sink
    c.args.network.now c.loop-left.network c.loop-left.network c.loop-left.invariant.run rounds in
    come

pub returns-then-not-is_trying-clause-turns : goal.returns-then-not-is_trying-clause-turns
returns-then-not-is_trying-clause-turns g c =
    let agrees = g.M.Machine.agrees in
    let wants = g.M.Machine.wants in
    let did = g.N.Stream.NonBlocking.did in
    let heard = g.K.LineSink.heard in
    let does = g.N.Network.did in
    let time = g.P.Poller.time in
    let first = network_value c.args.board.now.all c.args.board.now.outbound.items in
    let before = c.loop-left.board in
    let beside = before.outbound.items in
    let old = network_value before.all beside in
    let ran = network_value c.run.new.self beside in
    let turns = keep_then first.tickets old.tickets ran.tickets c.loop-left.invariant.turns
    (turns_run before.all.tickets c.run.new.self.tickets beside c.in_ok-ending.ensures.turns) in
    turns

pub returns-then-not-is_trying-clause-whole : goal.returns-then-not-is_trying-clause-whole
returns-then-not-is_trying-clause-whole g c =
    let agrees = g.M.Machine.agrees in
    let wants = g.M.Machine.wants in
    let did = g.N.Stream.NonBlocking.did in
    let heard = g.K.LineSink.heard in
    let does = g.N.Network.did in
    let time = g.P.Poller.time in
    let first = network_value c.args.board.now.all c.args.board.now.outbound.items in
    let before = c.loop-left.board in
    let beside = before.outbound.items in
    let old = network_value before.all beside in
    let ran = network_value c.run.new.self beside in
    let whole = sound_run agrees wants did before.all c.run.new.self beside c.in_ok-ending.ensures.kinds
    c.loop-left.invariant.whole in
    whole

pub returns-then-not-is_trying-clause-ending : goal.returns-then-not-is_trying-clause-ending
returns-then-not-is_trying-clause-ending g c =
    let agrees = g.M.Machine.agrees in
    let wants = g.M.Machine.wants in
    let did = g.N.Stream.NonBlocking.did in
    let heard = g.K.LineSink.heard in
    let does = g.N.Network.did in
    let time = g.P.Poller.time in
    let first = network_value c.args.board.now.all c.args.board.now.outbound.items in
    let before = c.loop-left.board in
    let beside = before.outbound.items in
    let old = network_value before.all beside in
    let ran = network_value c.run.new.self beside in
    let whole = sound_run agrees wants did before.all c.run.new.self beside c.in_ok-ending.ensures.kinds
    c.loop-left.invariant.whole in
    let over = subst (λ e. IsEnding wants c.args.until (time c.run.new.poller) c.run.new.self e) c.in-Ended.is
    c.in_ok-ending.ensures.ending in
    let idle : IsTryingAt beside c.in-Ended.at → ⊥ = λ there. false≢true (sym c.if-not-is_trying.true
    ∙ c.is_trying.ensures.1 (subst (λ l. IsTryingAt l c.in-Ended.at) (sym c.as_slice.ensures.value) there)) in
    ended_so agrees wants did c.run.new.self beside c.in-Ended.at whole idle over.0 over.1

pub ask_at-requires-clause-trying : goal.ask_at-requires-clause-trying
ask_at-requires-clause-trying g c = subst (λ l. IsTryingAt l c.in-Ended.at) c.as_slice.ensures.value
    (c.is_trying.ensures.0 c.if-not-is_trying.false)

pub ask_at-requires-clause-whole : goal.ask_at-requires-clause-whole
ask_at-requires-clause-whole g c =
    let agrees = g.M.Machine.agrees in
    let wants = g.M.Machine.wants in
    let did = g.N.Stream.NonBlocking.did in
    let heard = g.K.LineSink.heard in
    let does = g.N.Network.did in
    let time = g.P.Poller.time in
    let first = network_value c.args.board.now.all c.args.board.now.outbound.items in
    let before = c.loop-left.board in
    let beside = before.outbound.items in
    let old = network_value before.all beside in
    let ran = network_value c.run.new.self beside in
    let whole = sound_run agrees wants did before.all c.run.new.self beside c.in_ok-ending.ensures.kinds
    c.loop-left.invariant.whole in
    whole

pub loop-left-preserved : goal.loop-left-preserved
loop-left-preserved g c =
    let agrees = g.M.Machine.agrees in
    let wants = g.M.Machine.wants in
    let did = g.N.Stream.NonBlocking.did in
    let heard = g.K.LineSink.heard in
    let does = g.N.Network.did in
    let time = g.P.Poller.time in
    let first = network_value c.args.board.now.all c.args.board.now.outbound.items in
    let before = c.loop-left.board in
    let beside = before.outbound.items in
    let old = network_value before.all beside in
    let ran = network_value c.run.new.self beside in
    let rounds = run_comes agrees wants did heard does (time c.loop-left.poller) (time c.run.new.poller) before.all
    c.run.new.self beside c.loop-left.sink c.run.new.sink c.loop-left.network c.in_ok-ending.ensures.later
    c.loop-left.invariant.whole.len c.in_ok-ending.ensures.run in
    let come = comes_then agrees wants did heard does (time c.args.poller.now) (time c.loop-left.poller)
    (time c.run.new.poller) first.standings old.standings ran.standings c.args.sink.now c.loop-left.sink c.run.new.sink
    c.args.network.now c.loop-left.network c.loop-left.network c.loop-left.invariant.run rounds in
    let turns = keep_then first.tickets old.tickets ran.tickets c.loop-left.invariant.turns
    (turns_run before.all.tickets c.run.new.self.tickets beside c.in_ok-ending.ensures.turns) in
    let whole = sound_run agrees wants did before.all c.run.new.self beside c.in_ok-ending.ensures.kinds
    c.loop-left.invariant.whole in
    let asked = c.ask_at.ensures.asked in
    let after = network_value c.ask_at.new.board.all c.ask_at.new.board.outbound.items in
    let now = time c.now-now.new.self in
    let waited = comes_still agrees wants did heard does (time c.run.new.poller) now ran.standings c.run.new.sink
    c.loop-left.network c.now-now.ensures.later in
    let came = ask_comes agrees wants did heard does c.in-Ended.at now c.run.new.self c.ask_at.new.board.all.places
    beside c.ask_at.new.board.outbound.items c.run.new.sink c.loop-left.network c.ask_at.new.network
    (subst (λ (n : ℕ). HasAskedAt did does c.in-Ended.at n c.run.new.self.places c.ask_at.new.board.all.places beside
    c.ask_at.new.board.outbound.items c.loop-left.network c.ask_at.new.network) c.now-now.ensures.now asked) whole in
    record {
      room = search rules;
      whole = c.ask_at.ensures.whole;
      run = comes_then agrees wants did heard does (time c.args.poller.now) (time c.run.new.poller) now first.standings
          ran.standings after.standings c.args.sink.now c.run.new.sink c.run.new.sink c.args.network.now
          c.loop-left.network c.ask_at.new.network come
          (comes_then agrees wants did heard does (time c.run.new.poller) now now ran.standings ran.standings
          after.standings c.run.new.sink c.run.new.sink c.run.new.sink c.loop-left.network c.loop-left.network
          c.ask_at.new.network waited came);
      turns = keep_then first.tickets ran.tickets after.tickets turns
          (turns_asked c.run.new.self.tickets c.ask_at.new.board.all.tickets beside c.ask_at.new.board.outbound.items
          c.in-Ended.at asked.machine asked.dial (outbound_by asked.machine asked.came) asked.trying asked.beside
          c.ask_at.ensures.turns);
    }

pub returns-in-TooLate : goal.returns-in-TooLate
returns-in-TooLate g c =
    let agrees = g.M.Machine.agrees in
    let wants = g.M.Machine.wants in
    let did = g.N.Stream.NonBlocking.did in
    let heard = g.K.LineSink.heard in
    let does = g.N.Network.did in
    let time = g.P.Poller.time in
    let first = network_value c.args.board.now.all c.args.board.now.outbound.items in
    let before = c.loop-left.board in
    let beside = before.outbound.items in
    let old = network_value before.all beside in
    let ran = network_value c.run.new.self beside in
    let rounds = run_comes agrees wants did heard does (time c.loop-left.poller) (time c.run.new.poller) before.all
    c.run.new.self beside c.loop-left.sink c.run.new.sink c.loop-left.network c.in_ok-ending.ensures.later
    c.loop-left.invariant.whole.len c.in_ok-ending.ensures.run in
    let come = comes_then agrees wants did heard does (time c.args.poller.now) (time c.loop-left.poller)
    (time c.run.new.poller) first.standings old.standings ran.standings c.args.sink.now c.loop-left.sink c.run.new.sink
    c.args.network.now c.loop-left.network c.loop-left.network c.loop-left.invariant.run rounds in
    let turns = keep_then first.tickets old.tickets ran.tickets c.loop-left.invariant.turns
    (turns_run before.all.tickets c.run.new.self.tickets beside c.in_ok-ending.ensures.turns) in
    let whole = sound_run agrees wants did before.all c.run.new.self beside c.in_ok-ending.ensures.kinds
    c.loop-left.invariant.whole in
    record {
      run = come;
      ending = by_other agrees wants did c.run.new.self beside c.args.until (time c.run.new.poller)
          c.in_ok-ending.ending whole c.in-TooLate.is c.in_ok-ending.ensures.ending;
      served = served_there agrees wants did c.run.new.self beside c.args.until (time c.run.new.poller)
          before.all.tickets c.in_ok-ending.ending c.in-TooLate.is whole c.in_ok-ending.ensures.ending
          c.in_ok-ending.ensures.served;
      turns = turns;
      whole = whole;
    }
