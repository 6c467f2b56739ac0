-- An echo is told one thing more.
use Rattle.ws_echo.proofs.EchoLemmas.{left_lower, told_more, wants_next}
use Rattle.ws_echo.proofs.echo_machine.EchoMachineMachine.on_event.Goals as goal

pub returns-clause-told : goal.returns-clause-told
returns-clause-told c = told_more c.echo_laws.ensures c.args.self.now c.step.new.self c.args.event c.requires
    c.in_ok-step.ensures.steps

pub returns-clause-goes_on : goal.returns-clause-goes_on
returns-clause-goes_on c = wants_next c.step.new.self

pub returns-clause-nears : goal.returns-clause-nears
returns-clause-nears c = λ running. left_lower c.args.self.now c.step.new.self c.args.event c.requires
    c.in_ok-step.ensures.steps c.in_ok-step.ensures.fits
