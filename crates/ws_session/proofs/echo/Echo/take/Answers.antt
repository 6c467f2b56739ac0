-- Where an echo's call lacks memory, memory was wanted: for a data frame's payload, or for an answer that is owed.
use Rattle.std.proofs.Common.{subst}
use Rattle.ws_session.specs.Replies.{echo_reply_to}
use Rattle.ws_session.specs.Exchange.{SessionValue}
use Rattle.ws_session.specs.Memory.{WantsMemory}
use Rattle.ws_session.proofs.Wants.{on_err}
use Rattle.ws_session.proofs.echo.Echo.take.Goals as goal

pub returns-in_err-taken-clause-memory : goal.returns-in_err-taken-clause-memory
returns-in_err-taken-clause-memory c =
    on_err c.from_residual.result (WantsMemory echo_reply_to c.args.self.now c.args.piece.now)
    (subst (λ (x : SessionValue). WantsMemory echo_reply_to x c.args.piece.now) c.self.view_is c.in_err-taken.ensures.memory)
