-- The pieces are those of the bytes, cut after each so many.
use Rattle.ws_scripts.proofs.CutLemmas.{cut_every_is}
use Rattle.ws_scripts.proofs.cut_turn.CutTurn.every.Goals as goal

pub returns : goal.returns
returns c = cut_every_is c.args.count c.args.bytes.items c.requires
