-- What came into the room is what the machine is told; where nothing came it is idle from then on.
use Rattle.std.proofs.Common.{◌≡◌, ◌∷◌, [], length, nat_lt, arith}
use Rattle.std.proofs.lemmas.List.{length-take}
use Rattle.std.proofs.lemmas.Option.{MatchOption-at_none, MatchOption-at_some}
use Rattle.ws_machines.specs.Machines.{told_at}
use Rattle.ws_machines.specs.declared.stream.StreamEvent.{StreamEvent}
use Rattle.ws_loops.specs.Deeds.{moved_by, read_deed, told_by}
use Rattle.ws_loops.specs.Deeds.Deed.{HadNone}
use Rattle.ws_loops.specs.Paces.{is_wait_late, is_write_due, reads_first}
use Rattle.ws_loops.proofs.StepLemmas.{idle_so, read_asks, read_next, read_so}
use Rattle.ws_loops.proofs.serving.read.Goals as goal
use Rattle.ws_loops.proofs.serving.read.Goals.{in-Some+in_ok-tell-in-Some, in-None}

pub returns-clause-step : goal.returns-clause-step
returns-clause-step g c =
    let slot = c.args.slot.now in
    let wants = g.M.Machine.wants slot.machine in
    let room = c.try_read-outcome.new.room in
    let outcome = c.try_read-outcome.result in
    let deed = read_deed room outcome in
    let moved : moved_by deed ≡ c.count.result = c.count.ensures room c.try_read-outcome.ensures.fits in
    let asked : c.min-len.result ≡ length room = omega (
      arith,
      c.try_read-outcome.ensures.len,
      length-take c.min-len.result c.args.room.now,
      c.min.ensures,
      c.min-len.ensures,
    ) in
    let next = read_next wants slot.pace c.args.now room outcome c.requires.free c.requires.is_due in
    elim c.match-event.branch [
      | in-Some+in_ok-tell-in-Some w ↦ read_so g.M.Machine.agrees g.M.Machine.wants g.S.NonBlocking.did
          g.M.Machine.left c.args.now slot c.try_read-outcome.new.self w.tell.new.slot c.match-event.slot
          w.emptied_by-slot.result room outcome c.min-len.result (told_at wants w.in-Some.event) c.count.result
          (MatchOption-at_some (deed ≡ HadNone) (λ (x : StreamEvent). told_by deed ≡ told_at wants x ∷ [])
          w.in-Some.event w.in-Some.is (c.event.ensures.told wants)) moved asked w.in_ok-tell-in-Some.ensures.told
          w.in_ok-tell-in-Some.ensures.kept c.try_read-outcome.ensures.did next w.slot-is w.emptied_by-slot.ensures
      | in-None w ↦ idle_so g.M.Machine.agrees g.M.Machine.wants g.S.NonBlocking.did g.M.Machine.left c.args.now slot
          c.match-event.slot c.try_read-outcome.new.self w.idle_since-slot.result deed c.count.result
          (MatchOption-at_none (deed ≡ HadNone) (λ (x : StreamEvent). told_by deed ≡ told_at wants x ∷ [])
          w.in-None.is (c.event.ensures.told wants)) moved c.requires.able
          (read_asks slot.pace.idle c.args.now (nat_lt 0 wants.room) (reads_first slot.pace)
          (is_write_due wants slot.pace c.args.now) (is_wait_late wants slot.pace c.args.now) c.requires.is_due)
          c.try_read-outcome.ensures.did next w.slot-is w.idle_since-slot.ensures
    ]
