-- The move that the line tells is played.
use Rattle.ws_pair.proofs.playing.PlayerTakeValues.take_line.Goals as goal

pub returns-in-Ok-play_move : goal.returns-in-Ok-play_move
returns-in-Ok-play_move c = λ first before played. (c.in-Ok.value, c.in-Ok.ensures, c.in-Ok-play_move.ensures first before played)
