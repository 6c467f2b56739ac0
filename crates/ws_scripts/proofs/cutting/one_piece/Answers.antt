-- Where all bytes are cut after so many or more of them, they are one piece.
use Rattle.std.proofs.Common.{◌≤◌, length, rules}
use Rattle.ws_scripts.proofs.TurnLemmas.{whole_pieces}
use Rattle.ws_scripts.proofs.cutting.one_piece.Goals as goal

pub returns : goal.returns
returns c =
    let bytes = c.in_ok-bytes.bytes.items in
    let one : length bytes ≤ c.max-count.result = search rules in
    whole_pieces c.args.key c.args.steps.now c.max-count.result bytes c.every-pieces.result c.in_ok-bytes.ensures one c.every-pieces.ensures
