-- What stood there is handed out and noted; or all are given up.
use Rattle.wst_errands.proofs.LineLemmas.{lost_sound, over_sound}
use Rattle.wst_errands.proofs.errands.end_at.Goals as goal

pub returns-in-Ok-clause-sound : goal.returns-in-Ok-clause-sound
returns-in-Ok-clause-sound g c = over_sound g.M.Machine.agrees g.M.Machine.wants g.M.Machine.gives g.S.NonBlocking.did
    c.args.at c.args.all.now.standings c.take.new.self.standings c.args.line.now.items c.note.new.line.items
    c.requires.sound (record {
      taken = c.take.result;
      handed_out = c.take.ensures.taken;
      free = c.take.ensures.free;
      came = c.in-Ok.came;
      is = c.in-Ok.ensures;
      noted = c.note.ensures;
    })

pub returns-in-Err-clause-sound : goal.returns-in-Err-clause-sound
returns-in-Err-clause-sound g c = lost_sound g.M.Machine.agrees g.M.Machine.wants g.M.Machine.gives g.S.NonBlocking.did
    c.args.line.now.items c.give_up.new.line.items c.give_up.ensures.given_up c.give_up.new.all.standings
    c.give_up.ensures.free
