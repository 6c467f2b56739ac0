-- The key's four bytes twice over are its lanes.
use Rattle.std.proofs.Common.{◌∙◌, arith}
use Rattle.ws_wire.proofs.Masks.{two_times, four_again}
use Rattle.ws_wire.proofs.masking.quarter_key_lanes.Goals as goal

pub returns-clause-lanes : goal.returns-clause-lanes
returns-clause-lanes c = λ key phase are. two_times key phase _ _ _ _ (λ i lt. four_again c.args.turned c.requires i lt ∙ are i (omega (arith, lt, c.requires)))
