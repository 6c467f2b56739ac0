-- A send is told as such. The end of the input, called at a session, is answered as such, ends the exchange, and its line is told.
use Rattle.std.proofs.Common.{OnOk, refl, sym, subst, true, string_bytes}
use Rattle.ws_session.specs.Replies.{reply_to}
use Rattle.ws_calls.specs.declared.calls.Call.{Call}
use Rattle.ws_calls.specs.declared.report.CallAnswer.TheVariants.{Ended}
use Rattle.ws_session.specs.Sends.{send_of}
use Rattle.ws_calls.specs.Calls.{session_of}
use Rattle.ws_calls.specs.InnerSteps.{HasToldCall}
use Rattle.ws_calls.proofs.Sending.{told_send}
use Rattle.ws_calls.specs.InnerSteps.{endpoint_of}
use Rattle.ws_calls.proofs.running.Caller+Session.call.Goals as goal

pub returns-in-Send : goal.returns-in-Send
returns-in-Send c = λ exchange is.
    let old = c.args.self.now in
    let new = c.send.new.self in
    let endpoint = session_of old.called.role old.called.limits in
    subst (λ (call : Call). OnOk c.send.result (HasToldCall endpoint exchange call (string_bytes old.lines) new.taken new.called (string_bytes new.lines))) (sym c.in-Send.is)
    (told_send endpoint exchange new.taken new.called c.in-Send.send (send_of c.outgoing.result) c.key.result (string_bytes old.lines) (string_bytes new.lines) c.send.result c.outgoing.ensures c.key.ensures
    (c.send.ensures exchange is))

pub returns-in_ok-tell_ended-in-End : goal.returns-in_ok-tell_ended-in-End
returns-in_ok-tell_ended-in-End c = λ exchange is.
    subst (λ (call : Call). HasToldCall (endpoint_of reply_to c.args.self.now.called) exchange call (string_bytes c.args.self.now.lines) c.args.self.now.taken c.end.new.self (string_bytes c.tell_ended.new.lines)) (sym c.in-End.is)
    (record {
      answer = Ended;
      answered = record {
        after = record exchange { ended = true };
        answered = (refl, refl);
        agrees = record { exchanged = c.end.ensures.exchanged exchange.sent exchange.taken exchange.ended is.exchanged; count = is.count };
        same = (c.end.ensures.role, c.end.ensures.limits);
      };
      told = c.in_ok-tell_ended-in-End.ensures;
    })
