-- The same moves are answered in one way, and lead to one link.
use Rattle.ws_pair.proofs.OnePlay.{plays_are_one}
use Rattle.ws_pair.proofs.laws.one_play.Goals as goal

pub returns : goal.returns
returns c = plays_are_one
