-- The lines of the run were written, or it is told why not.
use Rattle.std.proofs.Common.{◌≡◌, ap, inl, inr, refl, subst}
use Rattle.ws_frame.specs.Devices.{watched}
use Rattle.ws_lines.specs.declared.transcript_lines.Showing.{Showing}
use Rattle.wst_clients.proofs.CaptureLemmas.{kept_untouched}
use Rattle.wst_sockets.specs.declared.meeting.ConnectFault.TheVariants as why
use Rattle.wst_testing.specs.LineWriting.{HasWrittenRun}
use Rattle.wst_run.proofs.SendLemmas.{sends_refused, sends_shown, sends_unmet}
use Rattle.wst_run.proofs.send.send_shown.Goals as goal

pub returns-in-Ok-Ran-clause-sends : goal.returns-in-Ok-Ran-clause-sends
returns-in-Ok-Ran-clause-sends g c =
    let plan = c.args.plan.now in
    let output = watched g.W.Write.contents c.args.writer.now c.run_shown.new.writer in
    let written = rw c.in-Ok-Ran.field-0-is at c.in-Ok-Ran.ensures.shown in
    let as_asked = subst (λ (s : Showing). HasWrittenRun s c.in-Ok-Ran.transcript output) c.shown_so-showing.ensures
    written in
    let meets = rw c.in-Ok-Ran.field-0-is at c.in-Ok-Ran.ensures.meets in
    sends_shown (g.S.CaseServer.meets_shown c.args.server.now plan.run.key) plan c.args.case.now output
    (watched g.F.Write.contents c.args.faults.now c.hint_echo.new.faults) c.in-Ok-Ran.transcript
    c.shown_so-showing.result.tested c.requires.shows (ap (λ (s : Showing). s.tested) c.shown_so-showing.ensures) meets
    as_asked c.hint_echo.ensures.hints

pub returns-in-Ok-Refused-clause-sends : goal.returns-in-Ok-Refused-clause-sends
returns-in-Ok-Refused-clause-sends g c =
    let plan = c.args.plan.now in
    let meets = rw c.in-Ok-Refused.field-0-is at c.in-Ok-Refused.ensures.meets in
    let kept = rw c.in-Ok-Refused.field-0-is at c.in-Ok-Refused.ensures.shown in
    sends_refused (g.S.CaseServer.meets_shown c.args.server.now plan.run.key) plan c.args.case.now
    (watched g.W.Write.contents c.args.writer.now c.run_shown.new.writer)
    (watched g.F.Write.contents c.args.faults.now c.tell_refused.new.faults) c.in-Ok-Refused.refusal
    c.tell_refused.result (c.tell_refused.new.faults ≡ c.args.faults.now) meets kept
    (kept_untouched g.F.Write.contents c.args.faults.now c.tell_refused.new.faults) c.tell_refused.ensures.told

pub returns-in-Ok-NoConnection-clause-sends : goal.returns-in-Ok-NoConnection-clause-sends
returns-in-Ok-NoConnection-clause-sends g c =
    let plan = c.args.plan.now in
    let meets = rw c.in-Ok-NoConnection.field-0-is at c.in-Ok-NoConnection.ensures.meets in
    let kept = rw c.in-Ok-NoConnection.field-0-is at c.in-Ok-NoConnection.ensures.shown in
    sends_unmet (g.S.CaseServer.meets_shown c.args.server.now plan.run.key) plan c.args.case.now
    (watched g.W.Write.contents c.args.writer.now c.run_shown.new.writer)
    (watched g.F.Write.contents c.args.faults.now c.tell_unmet.new.faults) c.in-Ok-NoConnection.why c.tell_unmet.result
    meets c.tell_unmet.ensures.exit c.tell_unmet.ensures.told (inl kept)

pub returns-in-Err-Network-clause-sends : goal.returns-in-Err-Network-clause-sends
returns-in-Err-Network-clause-sends g c =
    let plan = c.args.plan.now in
    let meets = rw c.in-Err-Network.field-0-is at c.in-Err-Network.ensures.stops in
    sends_unmet (g.S.CaseServer.meets_shown c.args.server.now plan.run.key) plan c.args.case.now
    (watched g.W.Write.contents c.args.writer.now c.run_shown.new.writer)
    (watched g.F.Write.contents c.args.faults.now c.tell_unmet-in-Err-Network.new.faults) why.Failed c.tell_unmet-in-Err-Network.result meets
    c.tell_unmet-in-Err-Network.ensures.exit c.tell_unmet-in-Err-Network.ensures.told (inr (c.requires.shows, refl))
