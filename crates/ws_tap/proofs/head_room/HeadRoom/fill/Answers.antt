-- As many bytes come as fit, or all.
use Rattle.std.proofs.Common.{◌∙◌, arith}
use Rattle.ws_tap.proofs.HeadLemmas.{fills}
use Rattle.ws_tap.proofs.head_room.HeadRoom.fill.Goals as goal

pub returns : goal.returns
returns c =
    c.push.ensures ∙ fills 8192 c.args.self.now c.args.more.now c.min.result
    (omega (arith, c.len-room.ensures.count, c.len-room.ensures.bound))
    (omega (arith, c.len-room.ensures.count, c.min.ensures))
