-- The end of the input, called at an echo, is answered as such, ends the exchange, and its line is told.
use Rattle.std.proofs.Common.{refl, sym, subst, true, string_bytes}
use Rattle.ws_session.specs.Replies.{echo_reply_to}
use Rattle.ws_calls.specs.declared.calls.EchoCall.{EchoCall}
use Rattle.ws_calls.specs.declared.report.CallAnswer.TheVariants.{Ended}
use Rattle.ws_calls.specs.Script.{as_call}
use Rattle.ws_calls.specs.InnerSteps.{HasToldCall}
use Rattle.ws_calls.specs.InnerSteps.{endpoint_of}
use Rattle.ws_calls.proofs.echo_running.Caller+Echo.call.Goals as goal

pub returns-in_ok-tell_ended-in-End : goal.returns-in_ok-tell_ended-in-End
returns-in_ok-tell_ended-in-End c = λ exchange is.
    subst (λ (call : EchoCall). HasToldCall (endpoint_of echo_reply_to c.args.self.now.called) exchange (as_call call) (string_bytes c.args.self.now.lines) c.args.self.now.taken c.end.new.self (string_bytes c.tell_ended.new.lines)) (sym c.in-End.is)
    (record {
      answer = Ended;
      answered = record {
        after = record exchange { ended = true };
        answered = (refl, refl);
        agrees = record { exchanged = c.end.ensures.exchanged exchange.sent exchange.taken exchange.ended is.exchanged; count = is.count };
        same = (c.end.ensures.role, c.end.ensures.limits);
      };
      told = c.in_ok-tell_ended-in-End.ensures;
    })
