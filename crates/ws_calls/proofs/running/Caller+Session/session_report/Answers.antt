-- What comes last is told behind the lines of the calls.
use Rattle.std.proofs.Common.{◌≡◌, ◌++◌, Some, rules, string_bytes}
use Rattle.ws_calls.specs.CallLines.{last_lines}
use Rattle.ws_calls.proofs.Ending.{session_begun, session_told}
use Rattle.ws_calls.proofs.running.Caller+Session.session_report.Goals as goal

pub returns : goal.returns
returns c = λ role limits first calls new made.
    let now = c.args.self in
    let h = session_begun role limits first.called first.taken (string_bytes first.lines) calls now.taken now.called
    (string_bytes now.lines) new.agrees new.same new.lines made in
    let held = c.held-held.ensures in
    let last : string_bytes c.tell_last.new.lines ≡ string_bytes c.args.self.lines ++ last_lines (Some c.held-held.result) c.args.self.called.status = search rules in
    session_told role limits calls c.args.self.taken c.args.self.called (string_bytes c.args.self.lines)
    (string_bytes c.tell_last.new.lines) c.held-held.result h
    (record { count = held.held; over = held.over }) last
