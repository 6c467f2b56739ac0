-- The last of the pings is looked for among the pongs of the turn.
use Rattle.ws_suite.specs.InnerTally.{pong_of}
use Rattle.ws_suite.proofs.LastPingLemmas.{none_due, ping_due}
use Rattle.ws_suite.proofs.evidence.last_ping.LastPing.note_due.Goals as goal

pub returns-in_ok-keep : goal.returns-in_ok-keep
returns-in_ok-keep c = λ turn dues gots of_turn h.
    ping_due turn dues gots c.args.fresh.now c.args.self.now
    (pong_of c.in-Some.pong.turn c.in-Some.pong.payload.now) c.keep.new.self c.contains-self.result
    c.in-Some.ensures c.in_ok-keep.ensures c.contains-self.ensures of_turn h

pub returns-in_default : goal.returns-in_default
returns-in_default c = λ turn dues gots of_turn h.
    none_due turn dues gots c.args.fresh.now c.args.self.now c.in_default.ensures h
