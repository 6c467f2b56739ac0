-- All sixteen places are masked, and so are the first of them.
use Rattle.std.proofs.Common.{◌∙◌, List, ℕ, ap, take}
use Rattle.ws_wire.specs.Masking.{masked}
use Rattle.ws_wire.proofs.Masks.{take-masked}
use Rattle.ws_frame.proofs.first_bytes.FirstBytes.unmask.Goals as goal

pub returns : goal.returns
returns c =
    let len = c.self.inside.len in
    ap (λ (t : List ℕ). take len t) c.mask_sixteen.ensures.masked
    ∙ take-masked c.args.key 0 len c.self.inside.bytes
    ∙ ap (λ (t : List ℕ). masked c.args.key 0 t) c.self.view_is
