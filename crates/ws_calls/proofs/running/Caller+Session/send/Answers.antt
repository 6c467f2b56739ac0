-- A send at a session is answered as its exchange allows, and told: sent with these bytes, or refused for the reason.
use Rattle.std.proofs.Common.{◌∙◌, ◌++◌, List, ℕ, ap, string_bytes}
use Rattle.ws_session.specs.Replies.{reply_to}
use Rattle.ws_session.specs.Sends.{send_of}
use Rattle.ws_calls.specs.CallLines.{answer_lines}
use Rattle.ws_calls.specs.InnerSteps.{send_answer}
use Rattle.ws_calls.proofs.Sending.{has_sent, refusal_outcome}
use Rattle.ws_calls.proofs.running.Caller+Session.send.Goals as goal

pub returns : goal.returns
returns c = λ exchange is.
    let put = c.send-sent.new.out.items in
    let refusal = c.in_ok-refusal.refusal in
    let answer = send_answer put refusal in
    record {
      answer = answer;
      answered = has_sent reply_to exchange c.args.self.now.taken c.args.self.now.called c.send-sent.new.self
          (send_of c.args.frame.now) c.args.key c.clear.new.self.items put c.send-sent.result answer
          c.clear.ensures.items c.send-sent.ensures.sent c.send-sent.ensures.refused c.send-sent.ensures.kept
          (refusal_outcome c.send-sent.result put refusal c.in_ok-refusal.ensures) is;
      told = c.in_ok-tell_send.ensures
          ∙ ap (λ (l : List ℕ). string_bytes c.args.self.now.lines ++ answer_lines (send_answer l refusal)) c.as_slice.ensures.value;
    }
