-- Its lines tell of both ends.
use Rattle.ws_tap.proofs.TapStands.{tap_tells}
use Rattle.ws_tap.proofs.laws.a_tap_tells_both_ends.Goals as goal

pub returns : goal.returns
returns c = λ tapped told tap text h. tap_tells tapped told tap text h
