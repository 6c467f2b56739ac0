-- The call is made behind those before it.
use Rattle.std.proofs.Common.{string_bytes}
use Rattle.ws_session.specs.Replies.{echo_reply_to}
use Rattle.ws_calls.specs.Script.{as_call}
use Rattle.ws_calls.proofs.Making.{called_more}
use Rattle.ws_calls.proofs.echo_running.Caller+Echo.make_call.Goals as goal

pub returns-in-Ok-call : goal.returns-in-Ok-call
returns-in-Ok-call c = λ first before made.
    let old = c.args.self.now in
    let new = c.call.new.self in (
      c.in-Ok.call,
      c.in-Ok.ensures,
      called_more as_call echo_reply_to first.taken first.called (string_bytes first.lines) before c.in-Ok.call old.taken new.taken
          old.called new.called (string_bytes old.lines) (string_bytes new.lines) made c.in-Ok-call.ensures,
    )
