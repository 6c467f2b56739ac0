-- One place more was served.
use Rattle.std.proofs.Common.{arith}
use Rattle.ws_loops.proofs.PlaceLemmas.{kinds_same, kinds_then}
use Rattle.ws_loops.proofs.RoundLemmas.{none_served, one_served}
use Rattle.ws_loops.proofs.rounds.serve_these.Goals as goal

pub loop-next-init : goal.loop-next-init
loop-next-init g c = record {
  room = c.requires.room;
  next = omega arith;
  standing = c.requires.standing;
  rests = c.requires.rests;
  kinds = kinds_same c.args.seats.now.places.items;
  served = none_served g.M.Machine.agrees g.M.Machine.wants g.S.NonBlocking.did g.K.LineSink.heard c.args.now
      c.args.these.now c.args.seats.now c.args.sink.now;
}

pub loop-next-preserved : goal.loop-next-preserved
loop-next-preserved g c =
    let before = c.loop-next.invariant in
    let served = c.in_ok-serve_at.ensures in
    record {
      room = omega (arith, before.room, served.len);
      next = omega (arith, c.loop-next-test.true);
      standing = served.standing;
      rests = served.rests;
      kinds = kinds_then c.args.seats.now.places.items c.loop-next.seats.places.items
          c.serve_at.new.seats.places.items before.kinds served.kinds;
      served = one_served g.M.Machine.agrees g.M.Machine.wants g.S.NonBlocking.did g.K.LineSink.heard c.args.now
          c.args.these.now c.loop-next.next c.number_at-at.result c.args.seats.now c.loop-next.seats
          c.serve_at.new.seats c.args.sink.now c.loop-next.sink c.serve_at.new.sink c.number_at-at.ensures
          before.standing.calls before.served served.served;
    }

pub returns-in_err-serve_at-clause-kinds : goal.returns-in_err-serve_at-clause-kinds
returns-in_err-serve_at-clause-kinds g c = kinds_then c.args.seats.now.places.items c.loop-next.seats.places.items
    c.serve_at.new.seats.places.items c.loop-next.invariant.kinds c.in_err-serve_at.ensures.kinds
