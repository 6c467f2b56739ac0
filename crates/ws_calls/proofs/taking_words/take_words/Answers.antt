-- The words are those that were cut off the line.
use Rattle.ws_calls.proofs.TakeLines.{is_take_line}
use Rattle.ws_calls.proofs.taking_words.take_words.Goals as goal

pub returns : goal.returns
returns c = is_take_line c.in_ok-piece.piece.now c.in_ok-key.key c.in_ok-piece.key.now c.in_ok-fields.fields.now c.args.line.now
    c.in_ok-fields.ensures c.in_ok-piece.ensures c.in_ok-key.ensures
