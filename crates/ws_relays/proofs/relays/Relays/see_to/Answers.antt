-- Each thing that has happened was seen to.
use Rattle.std.proofs.Common.{arith}
use Rattle.ws_relays.specs.InnerRelays.{StoodUntil}
use Rattle.ws_relays.specs.declared.ends.EndEvent.TheVariants as came
use Rattle.ws_relays.proofs.RelaySees.{sees_by_deeds, sees_client, sees_full, sees_happened}
use Rattle.ws_relays.proofs.relays.Relays.see_to.Goals as goal

pub returns-in-Happened : goal.returns-in-Happened
returns-in-Happened g c =
    rw c.in-Happened.is (record {
      sees = sees_happened g.S.NonBlocking.did g.N.Network.did c.args.self.now c.go_on.new.self c.args.network.now
          c.in-Happened.place c.in-Happened.happened _ c.go_on.result c.go_on.ensures.goes c.go_on.ensures.taken
          c.go_on.ensures.quiet;
    })

pub returns-in_ok-event-in-Stirred : goal.returns-in_ok-event-in-Stirred
returns-in_ok-event-in-Stirred g c =
    let told = c.in_ok-event-in-Stirred.ensures in
    rw c.in-Stirred.is (record {
      sees = sees_by_deeds g.S.NonBlocking.did g.N.Network.did
          (StoodUntil g.S.NonBlocking.did c.args.self.now (came.Stirred c.in-Stirred.place))
          (came.Stirred c.in-Stirred.place) c.args.network.now c.look_after.new.network c.args.self.now
          c.look_after.new.self _ _ c.in_ok-event-in-Stirred.event c.requires.works (omega (arith, told.taken))
          told.quiet told.stands;
    })

pub returns-in-Client : goal.returns-in-Client
returns-in-Client g c =
    rw c.in-Client.is (record {
      sees = sees_client g.S.NonBlocking.did g.N.Network.did c.args.self.now c.receive.new.self c.args.network.now
          c.receive.new.network c.in-Client.at c.in-Client.stream _ _ c.receive.result c.requires.works
          c.receive.ensures.stands c.receive.ensures.taken c.receive.ensures.quiet c.receive.ensures.silent;
    })

pub returns-in-Full : goal.returns-in-Full
returns-in-Full g c =
    rw c.in-Full.is (rw c.shortage.ensures (record {
      sees = sees_full g.S.NonBlocking.did g.N.Network.did c.args.self.now c.args.network.now c.in-Full.field-0 _ _
          c.requires.works;
    }))
