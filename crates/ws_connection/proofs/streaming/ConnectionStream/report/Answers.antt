-- No device is called for lines.
use Rattle.std.proofs.Common.{refl}
use Rattle.ws_machines.specs.Told.Told.{Reported}
use Rattle.ws_connection.proofs.StreamLemmas.{extends_by_call}
use Rattle.ws_connection.proofs.streaming.ConnectionStream.report.Goals as goal

pub returns : goal.returns
returns g c = extends_by_call c.args.self.now c.args.self.now (Reported c.args._lines.now) refl
