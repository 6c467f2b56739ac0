-- A new echo has taken the first bytes, and nothing was told to it.
use Rattle.std.proofs.Common.{List, ℕ, [], None, refl, subst}
use Rattle.ws_session.specs.Replies.{echo_reply_to}
use Rattle.ws_session.specs.Taking.{HasTakenAll}
use Rattle.ws_echo.specs.EchoMachines.{EchoValue, echo_call}
use Rattle.ws_echo.specs.InnerEchoing.{piece_call}
use Rattle.ws_echo.proofs.EchoLemmas.{begins_new, wants_next}
use Rattle.ws_echo.proofs.echo_machine.EchoMachine.new.Goals as goal

pub returns-clause-begins : goal.returns-clause-begins
returns-clause-begins c =
    let call = echo_call c.args.plan c.args.first.now in
    let (told, taken) = c.in_ok-answer.ensures.taken in
    let made : EchoValue = record {
      session = c.answer.new.echo;
      key = c.args.plan.key;
      rest = c.answer.new.self;
      left = c.args.plan.budget;
      stop = None;
    } in
    begins_new c.echo_laws.ensures call c.new-echo.result made told c.new-echo.ensures.role c.new-echo.ensures.limits
    c.new-echo.ensures.exchanged
    (subst (λ (l : List ℕ). HasTakenAll echo_reply_to c.new-echo.result c.answer.new.echo
    (piece_call c.args.first.now c.args.plan.key l c.answer.new.self) [] told) c.new-replies.ensures taken) refl refl refl

pub returns-clause-goes_on : goal.returns-clause-goes_on
returns-clause-goes_on c = wants_next (record {
  session = c.answer.new.echo;
  key = c.args.plan.key;
  rest = c.answer.new.self;
  left = c.args.plan.budget;
  stop = None;
})
