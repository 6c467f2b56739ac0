-- No bytes are cut into no pieces.
use Rattle.std.proofs.Common.{◌∙◌}
use Rattle.ws_scripts.proofs.CutLemmas.{no_pieces}
use Rattle.ws_scripts.proofs.cut_turn.CutTurn.none.Goals as goal

pub returns : goal.returns
returns c = no_pieces c.every.result (c.every.ensures.joined ∙ c.new.ensures.items) c.every.ensures.none_empty
