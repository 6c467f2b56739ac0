-- Why there is no connection was told, and then the address.
use Rattle.std.proofs.Common.{ℕ, List, [], ◌∷◌, subst}
use Rattle.std.proofs.KnownBytes.{Keeps-refl}
use Rattle.ws_frame.specs.Devices.{watched}
use Rattle.ws_frame.specs.Watching.{has_failed, inner_of}
use Rattle.wst_commands.specs.Devices.{Tells}
use Rattle.wst_sockets.specs.Meetings.{miss_line}
use Rattle.wst_testing.specs.Tried.{tried_notes}
use Rattle.wst_testing.proofs.NoteLemmas.{noted_next}
use Rattle.wst_testing.proofs.tried.tell_missed.Goals as goal

pub returns-clause-told : goal.returns-clause-told
returns-clause-told g c =
    let held = g.F.Write.contents (inner_of c.tell.new.faults) in
    let line = subst (λ (l : List ℕ). Tells l (watched g.F.Write.contents c.args.faults.now c.tell.new.faults))
    c.line.ensures c.tell.ensures.told in
    noted_next (miss_line c.args.why ∷ []) (tried_notes c.args.tested.now c.args.why) (has_failed c.tell.new.faults)
    (has_failed c.tell_tried.new.faults) (g.F.Write.contents (inner_of c.args.faults.now)) held
    (g.F.Write.contents (inner_of c.tell_tried.new.faults)) c.tell_tried.ensures.still (held, line, Keeps-refl held)
    c.tell_tried.ensures.told
