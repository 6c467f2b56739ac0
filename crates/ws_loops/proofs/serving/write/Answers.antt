-- What was taken of the bytes is what the machine is told; where nothing was it is full from then on.
use Rattle.std.proofs.Common.{◌≡◌, ◌∙◌, ◌≤◌, List, ℕ, [], ◌∷◌, length, take, subst, sym, arith}
use Rattle.ws_machines.specs.Machines.{told_at}
use Rattle.ws_loops.specs.Deeds.{FitsTryWrite, HasDone, moved_by, write_deed}
use Rattle.ws_loops.specs.Paces.{has_any_bytes, has_passed}
use Rattle.ws_loops.specs.Slots.{HasStepped}
use Rattle.ws_loops.specs.declared.slot.Slot.{Slot}
use Rattle.ws_loops.proofs.StepLemmas.{did_so, full_so, moved_within, write_asks, write_next, write_told}
use Rattle.ws_loops.proofs.StepLemmas.{write_told_none}
use Rattle.ws_loops.proofs.serving.write.Goals as goal
use Rattle.ws_loops.proofs.serving.write.Goals.{in-Some+in_ok-tell-in-Some, in-None}

pub returns-clause-step : goal.returns-clause-step
returns-clause-step g c =
    let slot = c.args.slot.now in
    let wants = g.M.Machine.wants slot.machine in
    let len = c.min-len.result in
    let outcome = c.try_write-outcome.result in
    let piece = take len wants.write in
    let deed = write_deed piece outcome in
    let fits : FitsTryWrite (length piece) outcome =
    subst (λ (l : List ℕ). FitsTryWrite (length (take len l)) outcome) c.to_write-bytes.ensures
    c.try_write-outcome.ensures.fits in
    let done : HasDone g.S.NonBlocking.did slot.stream c.try_write-outcome.new.self (deed ∷ []) =
    subst (λ (l : List ℕ). HasDone g.S.NonBlocking.did slot.stream c.try_write-outcome.new.self
    (write_deed (take len l) outcome ∷ [])) c.to_write-bytes.ensures c.try_write-outcome.ensures.did in
    let moved : moved_by deed ≡ c.count.result = c.count.ensures piece fits in
    let next = write_next wants slot.pace c.args.now piece outcome c.requires.free c.requires.read c.requires.is_due in
    elim c.match-event.branch [
      | in-Some+in_ok-tell-in-Some w ↦ subst (λ (x : Slot g.row.M.Denot g.row.S.Denot). HasStepped g.M.Machine.agrees
          g.M.Machine.wants g.S.NonBlocking.did g.M.Machine.left c.args.now slot x c.count.result []) (sym w.slot-is)
          (did_so g.M.Machine.agrees g.M.Machine.wants g.S.NonBlocking.did g.M.Machine.left c.args.now slot
          c.try_write-outcome.new.self w.tell.new.slot deed (told_at wants w.in-Some.event) c.count.result
          (write_told wants len outcome w.in-Some.event (sym c.event.ensures ∙ w.in-Some.is) fits) moved
          w.in_ok-tell-in-Some.ensures.told w.in_ok-tell-in-Some.ensures.kept done next)
      | in-None w ↦ full_so g.M.Machine.agrees g.M.Machine.wants g.S.NonBlocking.did g.M.Machine.left c.args.now slot
          c.match-event.slot c.try_write-outcome.new.self w.full_since-slot.result deed c.count.result
          (write_told_none wants len outcome (sym c.event.ensures ∙ w.in-None.is)) moved c.requires.able
          (write_asks slot.pace.full c.args.now (has_any_bytes wants.write)
          (has_passed slot.pace.limit slot.pace.writes_since c.args.now) c.requires.is_due) done next w.slot-is
          w.full_since-slot.ensures
    ]

pub returns-clause-share : goal.returns-clause-share
returns-clause-share g c =
    let bytes = c.to_write-bytes.result.now in
    let fits = c.try_write-outcome.ensures.fits in
    subst (λ (n : ℕ). n ≤ c.args.share) (c.count.ensures (take c.min-len.result bytes) fits)
    (moved_within c.min-len.result c.args.share bytes c.try_write-outcome.result (omega (arith, c.min-len.ensures))
    fits)
