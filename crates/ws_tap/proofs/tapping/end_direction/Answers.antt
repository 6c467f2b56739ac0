-- The direction was ended, which the tap is told, or it could not be.
use Rattle.std.proofs.Common.{refl, rules}
use Rattle.ws_tap.proofs.tapping.end_direction.Goals as goal

pub returns-then-is_err : goal.returns-then-is_err
returns-then-is_err g c = (c.half_close.ensures.kept, refl)

pub returns : goal.returns
returns g c =
    let ended : g.W.TapWriter.is_ended c.half_close.new.self = search rules in
    (c.half_close.ensures.kept, c.direction_ended.ensures.told, ended)
