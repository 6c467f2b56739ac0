-- A piece is taken as the word of the line spells it; any other call is made as it is read.
use Rattle.ws_calls.proofs.TakeLines.{session_word_taken}
use Rattle.ws_calls.proofs.running.CallerSessionTakeValues.take_line.Goals as goal

pub returns-in-Some : goal.returns-in-Some
returns-in-Some c =
    session_word_taken c.args.self.now c.take_word.new.self c.in-Some.found.0.now c.in-Some.found.1 c.args.line.now
    c.in-Some.ensures c.take_word.result c.take_word.ensures
