-- What is kept is the part under the key.
use Rattle.std.proofs.Common.{◌∙◌, List, ℕ, ap}
use Rattle.ws_session.specs.InnerMasked.{masked_from}
use Rattle.ws_session.proofs.control_payload.Small.unmasked.Goals as goal

pub returns : goal.returns
returns c = c.of.ensures ∙ c.unmask.ensures ∙ ap (λ (l : List ℕ). masked_from c.args.key 0 l) c.copy_from_slice.ensures.after
