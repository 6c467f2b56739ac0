-- There is one for each length.
use Rattle.std.proofs.Common.{◌∙◌, List, ℕ, ap, length, sym}
use Rattle.ws_scripts.proofs.PieceLemmas.{piece_count}
use Rattle.ws_scripts.proofs.pieces.PieceWalk.len.Goals as goal

pub returns : goal.returns
returns c =
    let x = c.self.inside in
    sym (piece_count x.lens.now x.long.now x.bytes.now) ∙ ap (λ (l : List (List ℕ)). length l) c.self.view_is
