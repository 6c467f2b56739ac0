-- Of a server at an address it may be told that the network could not be waited for.
use Rattle.wst_testing.proofs.ShownLoopLemmas.{stops_at}
use Rattle.wst_testing.proofs.address_server.AddressServerCaseServer.run_shown.Goals as goal

pub returns-in-Ok-clause-stops : goal.returns-in-Ok-clause-stops
returns-in-Ok-clause-stops g c = stops_at c.args.self.now c.args.key c.args.case.now c.show_looped.result
