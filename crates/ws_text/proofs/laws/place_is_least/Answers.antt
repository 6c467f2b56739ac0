-- Just the fronts of a piece up to the place at which it breaks a text go on with that text.
use Rattle.ws_text.proofs.Pieces.{least_place}
use Rattle.ws_text.proofs.laws.place_is_least.Goals as goal

pub returns : goal.returns
returns c = least_place
