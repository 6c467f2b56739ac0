-- The move is played, and its answer stands behind those before.
use Rattle.ws_pair.proofs.Stepping.{one_more}
use Rattle.ws_pair.proofs.playing.Player.play_move.Goals as goal

pub returns-in-Ok-push : goal.returns-in-Ok-push
returns-in-Ok-push c = λ first before played.
    one_more first c.args.self.now
    (record { client = c.play.new.client; server = c.play.new.server; answers = c.push.new.self }) before c.args.value.now
    c.in-Ok.answer played c.in-Ok.ensures c.in-Ok-push.ensures.items
