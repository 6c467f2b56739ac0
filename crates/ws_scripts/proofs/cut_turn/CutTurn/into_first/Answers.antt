-- The bytes of the first pieces are the first bytes.
use Rattle.std.proofs.Common.{◌≡◌, ◌∙◌, ℕ, List, ap, sym, take}
use Rattle.std.specs.List.{concat}
use Rattle.ws_scripts.proofs.CutLemmas.{first_bytes, joined_of}
use Rattle.ws_scripts.proofs.cut_turn.CutTurn.into_first.Goals as goal

pub returns : goal.returns
returns c =
    let bytes = c.self.inside.bytes.items in
    let pieces = c.args.self in
    let joined : concat pieces ≡ bytes = ap (λ (l : List (List ℕ)). concat l) (sym c.self.view_is) ∙ joined_of c.self.inside.cut bytes c.self.invariant in
    c.truncate.ensures.items ∙ ap (λ (l : List ℕ). take c.start-end.result l) (sym joined)
    ∙ ap (λ (k : ℕ). take k (concat pieces)) c.start-end.ensures ∙ first_bytes pieces c.args.count
