-- Its pipes hold what came and was not taken.
use Rattle.ws_tap.proofs.TapStands.{passed_on}
use Rattle.ws_tap.proofs.laws.a_tap_passes_all_on.Goals as goal

pub returns : goal.returns
returns c = λ tapped told tap text h. passed_on tapped told tap text h
