-- A slot that was woken, and then served, has had its turn.
use Rattle.ws_loops.proofs.RunLemmas.{woken_broken, woken_so}
use Rattle.ws_loops.proofs.rounds.serve_slot.Goals as goal

pub returns-in-Ok-clause-turn : goal.returns-in-Ok-clause-turn
returns-in-Ok-clause-turn g c =
    let (lines, put, served) = c.in-Ok.ensures.served in (
      lines,
      put,
      woken_so g.M.Machine.agrees g.M.Machine.wants g.S.NonBlocking.did c.args.now c.args.slot.now
          c.woken-slot.result c.serve_awake.new.slot c.args.ready lines c.woken-slot.ensures served,
    )

pub returns-in-Err-clause-put : goal.returns-in-Err-clause-put
returns-in-Err-clause-put g c = woken_broken g.M.Machine.agrees g.M.Machine.wants g.S.NonBlocking.did
    g.K.LineSink.heard c.args.at c.args.sink.now c.serve_awake.new.sink c.args.now c.args.slot.now
    c.woken-slot.result c.args.ready c.in-Err.why c.woken-slot.ensures c.in-Err.ensures.put
