-- What came of the connection, and of the machine that was run over it.
use Rattle.std.proofs.Common.{[], arith}
use Rattle.ws_networks.proofs.MeetLemmas.{first_free, last_len, met_missed, met_slot, never_other}
use Rattle.ws_networks.proofs.MeetLemmas.{slot_done}
use Rattle.ws_networks.proofs.meeting.meet.Goals as goal

pub connect-requires-clause-free : goal.connect-requires-clause-free
connect-requires-clause-free g c = first_free c.in_ok-one.one.standings c.in_ok-one.ensures.len c.in_ok-one.ensures.free

pub connect-requires-clause-able : goal.connect-requires-clause-able
connect-requires-clause-able g c = record {
  running = (c.args.attempt.machine, [], c.requires.untold);
  goes_on = c.requires.goes_on;
}

pub take-requires : goal.take-requires
take-requires g c = record {
  at = last_len g.M.Machine.agrees g.M.Machine.wants g.M.Machine.gives g.N.Stream.NonBlocking.did g.K.LineSink.heard g.N.Network.did
      c.args.attempt.bounds (g.P.Poller.time c.args.poller.now) c.now.result (g.P.Poller.time c.now.new.self)
      (g.P.Poller.time c.run.new.poller) (omega (arith, c.now.ensures.later, c.now.ensures.now)) c.now.ensures.now
      c.args.attempt.addresses.items c.args.attempt.machine c.in_ok-one.one.standings c.connect.new.self c.run.new.self c.args.network.now
      c.connect.new.network c.run.new.network c.args.sink.now c.run.new.sink c.in_ok-one.ensures.len c.connect.ensures.opened
      c.in_ok-run.ensures.run c.in_ok-run.field-0 c.in_ok-run.ensures.ending;
}

pub into_end-requires : goal.into_end-requires
into_end-requires g c = slot_done g.M.Machine.agrees g.M.Machine.wants g.M.Machine.gives g.N.Stream.NonBlocking.did g.K.LineSink.heard g.N.Network.did
    c.args.attempt.bounds (g.P.Poller.time c.args.poller.now) c.now.result (g.P.Poller.time c.now.new.self)
    (g.P.Poller.time c.run.new.poller) (omega (arith, c.now.ensures.later, c.now.ensures.now)) c.now.ensures.now
    c.args.attempt.addresses.items c.args.attempt.machine c.in_ok-one.one.standings c.connect.new.self c.run.new.self c.args.network.now
    c.connect.new.network c.run.new.network c.args.sink.now c.run.new.sink c.in_ok-one.ensures.len c.connect.ensures.opened
    c.in_ok-run.ensures.run c.in_ok-run.field-0 c.in_ok-run.ensures.ending c.in-Slot.slot c.in-Slot.ensures.taken

pub returns-in-Slot : goal.returns-in-Slot
returns-in-Slot g c = record {
  met = met_slot g.M.Machine.agrees g.M.Machine.wants g.M.Machine.gives g.N.Stream.NonBlocking.did g.K.LineSink.heard g.N.Network.did
      c.args.attempt.bounds (g.P.Poller.time c.args.poller.now) c.now.result (g.P.Poller.time c.now.new.self)
      (g.P.Poller.time c.run.new.poller) (omega (arith, c.now.ensures.later, c.now.ensures.now)) c.now.ensures.now
      c.args.attempt.addresses.items c.args.attempt.machine c.in_ok-one.one.standings c.connect.new.self c.run.new.self c.args.network.now
      c.connect.new.network c.run.new.network c.args.sink.now c.run.new.sink c.in_ok-one.ensures.len c.connect.ensures.opened
      c.in_ok-run.ensures.run c.in_ok-run.field-0 c.in_ok-run.ensures.ending c.in-Slot.slot
      c.in-Slot.ensures.taken c.in_ok-end-in-Slot.end c.requires.untold c.in_ok-end-in-Slot.ensures;
}

pub returns-in-Missed : goal.returns-in-Missed
returns-in-Missed g c = record {
  met = met_missed g.M.Machine.agrees g.M.Machine.wants g.M.Machine.gives g.N.Stream.NonBlocking.did g.K.LineSink.heard g.N.Network.did
      c.args.attempt.bounds (g.P.Poller.time c.args.poller.now) c.now.result (g.P.Poller.time c.now.new.self)
      (g.P.Poller.time c.run.new.poller) (omega (arith, c.now.ensures.later, c.now.ensures.now)) c.now.ensures.now
      c.args.attempt.addresses.items c.args.attempt.machine c.in_ok-one.one.standings c.connect.new.self c.run.new.self c.args.network.now
      c.connect.new.network c.run.new.network c.args.sink.now c.run.new.sink c.in_ok-one.ensures.len c.connect.ensures.opened
      c.in_ok-run.ensures.run c.in_ok-run.field-0 c.in_ok-run.ensures.ending c.in-Missed.why
      c.in-Missed.ensures.taken;
}

pub unreachable-requires : goal.unreachable-requires
unreachable-requires g c = never_other g.M.Machine.agrees g.M.Machine.wants g.M.Machine.gives g.N.Stream.NonBlocking.did g.K.LineSink.heard g.N.Network.did
    c.args.attempt.bounds (g.P.Poller.time c.args.poller.now) c.now.result (g.P.Poller.time c.now.new.self)
    (g.P.Poller.time c.run.new.poller) (omega (arith, c.now.ensures.later, c.now.ensures.now)) c.now.ensures.now
    c.args.attempt.addresses.items c.args.attempt.machine c.in_ok-one.one.standings c.connect.new.self c.run.new.self c.args.network.now
    c.connect.new.network c.run.new.network c.args.sink.now c.run.new.sink c.in_ok-one.ensures.len c.connect.ensures.opened
    c.in_ok-run.ensures.run c.in_ok-run.field-0 c.in_ok-run.ensures.ending c.take.result
    c.in-Nothing.is c.take.ensures.taken
