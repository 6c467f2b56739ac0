-- Both were ended, and nothing is held.
use Rattle.ws_tap.proofs.TapStands.{all_taken, over_is, passed_on}
use Rattle.ws_tap.proofs.laws.a_tap_that_is_over_has_passed_all_on.Goals as goal

pub returns : goal.returns
returns c = record {
  client = λ tapped told tap text h over. (
    (over_is tapped told tap text h over).0,
    all_taken _ (passed_on tapped told tap text h).client (over_is tapped told tap text h over).0,
  );
  server = λ tapped told tap text h over. (
    (over_is tapped told tap text h over).1,
    all_taken _ (passed_on tapped told tap text h).server (over_is tapped told tap text h over).1,
  );
}
