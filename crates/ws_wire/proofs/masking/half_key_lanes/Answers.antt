-- The key's four bytes four times over are its lanes.
use Rattle.std.proofs.Common.{◌∙◌, arith}
use Rattle.ws_wire.proofs.Masks.{four_times, four_again}
use Rattle.ws_wire.proofs.masking.half_key_lanes.Goals as goal

pub returns-clause-lanes : goal.returns-clause-lanes
returns-clause-lanes c = λ key phase are. four_times key phase _ _ _ _ (λ i lt. four_again c.args.turned c.requires i lt ∙ are i (omega (arith, lt, c.requires)))
