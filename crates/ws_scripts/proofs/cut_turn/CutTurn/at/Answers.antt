-- Pieces that end at these places are the only ones that do.
use Rattle.std.proofs.Common.{◌∙◌, ℕ, List, ap}
use Rattle.ws_scripts.specs.InnerCutting.{cut_at}
use Rattle.ws_scripts.proofs.CutLemmas.{cut_at_is, kept_ends}
use Rattle.ws_scripts.proofs.cut_turn.CutTurn.at.Goals as goal

pub invariant_of-result : goal.invariant_of-result
invariant_of-result c = kept_ends c.requires.0 c.args.bytes.items c.args.ends.items c.from_vec.result c.requires.1 c.from_vec.ensures

pub returns : goal.returns
returns c = λ pieces are.
    ap (λ (l : List ℕ). cut_at 0 l c.args.bytes.items) c.from_vec.ensures ∙ cut_at_is pieces c.args.bytes.items c.args.ends.items are
