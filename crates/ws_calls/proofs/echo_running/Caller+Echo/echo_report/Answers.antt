-- What comes last is told behind the lines of the calls.
use Rattle.std.proofs.Common.{◌≡◌, ◌++◌, None, rules, string_bytes}
use Rattle.ws_calls.specs.CallLines.{last_lines}
use Rattle.ws_calls.proofs.Ending.{echo_begun, echo_told}
use Rattle.ws_calls.proofs.echo_running.Caller+Echo.echo_report.Goals as goal

pub returns : goal.returns
returns c = λ role limits first calls new made.
    let now = c.args.self in
    let h = echo_begun role limits first.called first.taken (string_bytes first.lines) calls now.taken now.called
    (string_bytes now.lines) new.agrees new.same new.lines made in
    let last : string_bytes c.tell_last.new.lines ≡ string_bytes c.args.self.lines ++ last_lines None c.args.self.called.status = search rules in
    echo_told role limits calls c.args.self.taken c.args.self.called (string_bytes c.args.self.lines)
    (string_bytes c.tell_last.new.lines) h last
