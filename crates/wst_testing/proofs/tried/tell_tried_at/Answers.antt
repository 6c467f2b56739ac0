-- The three parts of the line were told, one after the other.
use Rattle.std.proofs.Common.{◌∙◌, ℕ, List, codes, subst}
use Rattle.ws_frame.specs.Devices.{watched}
use Rattle.ws_frame.specs.Watching.{has_failed, inner_of}
use Rattle.wst_commands.specs.Devices.{Tells}
use Rattle.wst_testing.proofs.NoteLemmas.{three_told}
use Rattle.wst_testing.proofs.tried.tell_tried_at.Goals as goal

pub returns-clause-told : goal.returns-clause-told
returns-clause-told g c =
    let address = subst (λ (l : List ℕ). Tells l (watched g.F.Write.contents c.tell.new.faults c.tell-2.new.faults))
    (c.as_bytes.ensures.value ∙ c.address.ensures) c.tell-2.ensures.told in
    three_told (codes "  tried ") c.args.target.now.address (codes "\n") (has_failed c.tell.new.faults)
    (has_failed c.tell-2.new.faults) (has_failed c.tell-3.new.faults)
    (g.F.Write.contents (inner_of c.args.faults.now)) (g.F.Write.contents (inner_of c.tell.new.faults))
    (g.F.Write.contents (inner_of c.tell-2.new.faults)) (g.F.Write.contents (inner_of c.tell-3.new.faults))
    c.tell-2.ensures.still c.tell-3.ensures.still c.tell.ensures.told address c.tell-3.ensures.told

pub returns-clause-still : goal.returns-clause-still
returns-clause-still g c = λ failed. c.tell-3.ensures.still (c.tell-2.ensures.still (c.tell.ensures.still failed))
