-- The word of the piece is kept in the room of its line; any other line stands there as it was.
use Rattle.ws_calls.proofs.TakeLines.{echo_word_taken}
use Rattle.ws_calls.proofs.echo_running.CallerEchoTakeValues.take_kept_line.Goals as goal

pub returns-in-Some : goal.returns-in-Some
returns-in-Some c =
    echo_word_taken c.args.self.now c.take_kept_word.new.self c.keep_piece.new.line.items c.in-Some.key c.args.line.now.items
    c.in-Some.ensures c.take_kept_word.result c.take_kept_word.ensures
