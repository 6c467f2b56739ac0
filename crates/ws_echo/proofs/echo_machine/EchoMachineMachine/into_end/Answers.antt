-- What comes of an echo that is done follows from all that it was told.
use Rattle.std.proofs.Common.{subst}
use Rattle.ws_echo.specs.EchoMachines.{EchoValue, IsEndOfEcho}
use Rattle.ws_echo.proofs.EchoLemmas.{ends_so}
use Rattle.ws_echo.proofs.echo_machine.EchoMachineMachine.into_end.Goals as goal

pub returns : goal.returns
returns c = ends_so c.echo_laws.ensures c.args.self c.end_of.result c.requires
    (subst (λ (x : EchoValue). IsEndOfEcho x.session.status x.stop c.end_of.result) c.self.view_is c.end_of.ensures)
