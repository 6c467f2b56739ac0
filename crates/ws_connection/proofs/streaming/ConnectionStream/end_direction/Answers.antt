-- Ending the own direction is one call more.
use Rattle.ws_machines.specs.Told.Told.{DirectionEnded}
use Rattle.ws_connection.proofs.StreamLemmas.{extends_by_call}
use Rattle.ws_connection.proofs.streaming.ConnectionStream.end_direction.Goals as goal

pub returns : goal.returns
returns g c = extends_by_call c.args.self.now c.end_once.new.self DirectionEnded c.end_once.ensures
