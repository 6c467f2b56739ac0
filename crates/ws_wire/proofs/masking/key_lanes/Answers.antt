-- A turned key, eight times over, fills the lanes of a vector as masking asks.
use Rattle.std.proofs.Common.{◌∙◌, arith}
use Rattle.ws_wire.proofs.Masks.{eight_times, four_again}
use Rattle.ws_wire.proofs.masking.key_lanes.Goals as goal

pub returns-clause-lanes : goal.returns-clause-lanes
returns-clause-lanes c = λ key phase are. eight_times key phase _ _ _ _ (λ i lt. four_again c.args.turned c.requires i lt ∙ are i (omega (arith, lt, c.requires)))
