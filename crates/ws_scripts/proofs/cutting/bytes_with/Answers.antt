-- A Wait has no bytes: those of the turns are those of the steps.
use Rattle.std.proofs.Common.{◌∙◌}
use Rattle.ws_scripts.proofs.TurnLemmas.{bytes_of_turns}
use Rattle.ws_scripts.proofs.cutting.bytes_with.Goals as goal

pub returns : goal.returns
returns c = c.in_ok-sent.ensures ∙ bytes_of_turns c.args.key c.args.steps.now
