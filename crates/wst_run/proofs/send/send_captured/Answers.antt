-- The capture of the run was written, or it is told why there is none.
use Rattle.std.proofs.Common.{◌≡◌, inl, refl, rules}
use Rattle.std.proofs.KnownBytes.{Keeps-refl}
use Rattle.ws_frame.specs.Devices.{watched}
use Rattle.ws_frame.specs.Watching.{inner_of}
use Rattle.ws_scripts.specs.Captures2.{written_capture2}
use Rattle.wst_clients.proofs.CaptureLemmas.{kept_untouched}
use Rattle.wst_commands.proofs.Delivering.{delivers_same}
use Rattle.wst_commands.specs.declared.exit.Exit.TheVariants.{Done}
use Rattle.wst_testing.specs.RunPlans.{tested_role}
use Rattle.wst_testing.specs.Testing.{run_capture}
use Rattle.wst_run.proofs.SendLemmas.{sends_captured, sends_refused, sends_unmet}
use Rattle.wst_run.proofs.send.send_captured.Goals as goal

pub returns-in_ok-text-in-Ran-clause-sends : goal.returns-in_ok-text-in-Ran-clause-sends
returns-in_ok-text-in-Ran-clause-sends g c =
    let plan = c.args.plan.now in
    let transcript = c.in-Ran.transcript in
    let text = written_capture2 (run_capture (tested_role plan.run.tested) plan.run.key transcript) in
    let output = watched g.W.Write.contents c.args.writer.now c.deliver.new.writer in
    let same : c.as_slice.result.now ≡ text = search rules in
    sends_captured (g.S.CaseServer.meets c.args.server.now plan.run.key) plan c.args.case.now output
    (watched g.F.Write.contents c.args.faults.now c.args.faults.now) transcript c.deliver.result c.requires.captures
    (rw c.in-Ran.is at c.in_ok-transcript.ensures) (Keeps-refl (g.F.Write.contents (inner_of c.args.faults.now)))
    (delivers_same Done Done c.as_slice.result.now text c.deliver.result output refl same c.deliver.ensures)

pub returns-in-Refused-clause-sends : goal.returns-in-Refused-clause-sends
returns-in-Refused-clause-sends g c =
    let plan = c.args.plan.now in
    sends_refused (g.S.CaseServer.meets c.args.server.now plan.run.key) plan c.args.case.now
    (watched g.W.Write.contents c.args.writer.now c.args.writer.now)
    (watched g.F.Write.contents c.args.faults.now c.tell_refused.new.faults) c.in-Refused.refusal c.tell_refused.result
    (c.tell_refused.new.faults ≡ c.args.faults.now) (rw c.in-Refused.is at c.in_ok-transcript.ensures)
    (Keeps-refl (g.W.Write.contents (inner_of c.args.writer.now)))
    (kept_untouched g.F.Write.contents c.args.faults.now c.tell_refused.new.faults) c.tell_refused.ensures.told

pub returns-in-NoConnection-clause-sends : goal.returns-in-NoConnection-clause-sends
returns-in-NoConnection-clause-sends g c =
    let plan = c.args.plan.now in
    sends_unmet (g.S.CaseServer.meets c.args.server.now plan.run.key) plan c.args.case.now
    (watched g.W.Write.contents c.args.writer.now c.args.writer.now)
    (watched g.F.Write.contents c.args.faults.now c.tell_unmet.new.faults) c.in-NoConnection.why c.tell_unmet.result
    (rw c.in-NoConnection.is at c.in_ok-transcript.ensures) c.tell_unmet.ensures.exit c.tell_unmet.ensures.told
    (inl (Keeps-refl (g.W.Write.contents (inner_of c.args.writer.now))))
