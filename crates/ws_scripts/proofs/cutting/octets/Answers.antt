-- The bytes of the steps, cut after each n of them, are the pieces of a turn.
use Rattle.ws_scripts.proofs.TurnLemmas.{octet_pieces}
use Rattle.ws_scripts.proofs.cutting.octets.Goals as goal

pub returns : goal.returns
returns c = octet_pieces c.args.key c.args.steps.now c.args.n c.in_ok-bytes.bytes.items c.every-pieces.result c.in_ok-bytes.ensures c.every-pieces.ensures
