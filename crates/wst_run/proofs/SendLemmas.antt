-- What came of a script over an end, by how it was met.
use Rattle.std.proofs.Common.{◌≡◌, Bool, true, false, Result, Ok, Err, inl, inr, subst, sym}
use Rattle.std.specs.Prelude.{MatchResult}
use Rattle.ws_frame.specs.Devices.{Device, IsUntouched}
use Rattle.ws_handshake.specs.declared.probe_end.HeadRefusal.{HeadRefusal}
use Rattle.ws_scripts.specs.Captures2.{written_capture2}
use Rattle.ws_scripts.specs.declared.script.Case.{Case}
use Rattle.ws_scripts.specs.declared.transcript.Transcript.{Transcript}
use Rattle.ws_wire.specs.declared.role.Role.{Role}
use Rattle.wst_commands.specs.Devices.{Delivers, Tells}
use Rattle.wst_commands.specs.declared.exit.Exit.{Exit}
use Rattle.wst_commands.specs.declared.exit.Exit.TheVariants.{Damaged, Done, Failed}
use Rattle.wst_commands.specs.declared.fault.Fault.{Fault}
use Rattle.wst_commands.specs.declared.fault.Fault.TheVariants.{NoMemory}
use Rattle.wst_sockets.specs.declared.meeting.ConnectFault.{ConnectFault}
use Rattle.wst_sockets.specs.declared.meeting.Meeting.{Meeting}
use Rattle.wst_sockets.specs.declared.meeting.Meeting.TheVariants.{NoConnection, Ran, Refused}
use Rattle.wst_testing.specs.LineWriting.{HasWrittenRun}
use Rattle.wst_testing.specs.Notes.{TellsEach}
use Rattle.wst_testing.specs.Outcomes.{refused_lines}
use Rattle.wst_testing.specs.RunPlans.{tested_role}
use Rattle.wst_testing.specs.Testing.{run_capture}
use Rattle.wst_testing.specs.Tried.{missed_notes}
use Rattle.wst_run.specs.ClientRuns.{HintsEcho}
use Rattle.wst_run.specs.Send.{HintsRun, MayHaveLines, SendsCase, send_showing}
use Rattle.wst_run.specs.declared.send.SendPlan.{SendPlan}

module _ (Meets : Case → Meeting → Type 0) (plan : SendPlan) (case : Case) (output faults : Device) where
  -- the lines of a run were written
  pub sends_shown : (transcript : Transcript) (tested : Role) → plan.capture ≡ false
      → tested ≡ tested_role plan.run.tested → Meets case (Ran transcript)
      → HasWrittenRun (send_showing plan) transcript output → HintsEcho plan.run.expected tested transcript faults
      → SendsCase Meets plan case (Ok Done) output faults
  sends_shown transcript tested shows role meets written hints = (
    transcript,
    meets,
    inl (shows, written),
    subst (λ (b : Bool). HintsRun b plan.run.expected (tested_role plan.run.tested) transcript faults) (sym shows)
        (subst (λ (r : Role). HintsEcho plan.run.expected r transcript faults) role hints),
  )

  -- the capture of a run was written, or that failed
  pub sends_captured : (transcript : Transcript) (exit : Exit) → plan.capture ≡ true → Meets case (Ran transcript)
      → IsUntouched faults
      → Delivers Done (written_capture2 (run_capture (tested_role plan.run.tested) plan.run.key transcript)) exit output
      → SendsCase Meets plan case (Ok exit) output faults
  sends_captured transcript exit captures meets untold (inl (is, works, written)) =
      subst (λ (e : Exit). SendsCase Meets plan case (Ok e) output faults) (sym is) (
        transcript,
        meets,
        inr (captures, written, works),
        subst (λ (b : Bool). HintsRun b plan.run.expected (tested_role plan.run.tested) transcript faults)
            (sym captures) untold,
      )
  sends_captured transcript exit captures meets untold (inr (is, fails, begun)) =
      subst (λ (e : Exit). SendsCase Meets plan case (Ok e) output faults) (sym is)
      (inl (fails, λ asked. (transcript, meets, begun), untold))

  -- the answer is refused, which is told, or memory ran out for that
  pub sends_refused : (refusal : HeadRefusal) (ended : Result Exit Fault) (Kept : Type 0) → Meets case (Refused refusal)
      → IsUntouched output → (Kept → IsUntouched faults)
      → MatchResult ended (λ exit. (exit ≡ Damaged) × Tells (refused_lines refusal) faults)
      (λ fault. (fault ≡ NoMemory) × Kept) → SendsCase Meets plan case ended output faults
  sends_refused refusal (Ok exit) Kept meets kept untold (is, told) =
      subst (λ (e : Exit). SendsCase Meets plan case (Ok e) output faults) (sym is) (refusal, meets, told, kept)
  sends_refused refusal (Err fault) Kept meets kept untold (is, same) = (is, untold same, λ asked. kept)

  -- there is no connection, which is told
  pub sends_unmet : (reason : ConnectFault) (exit : Exit) → Meets case (NoConnection reason) → exit ≡ Failed
      → TellsEach (missed_notes plan.run.tested reason) faults → MayHaveLines plan reason output
      → SendsCase Meets plan case (Ok exit) output faults
  sends_unmet reason exit meets is told may =
      subst (λ (e : Exit). SendsCase Meets plan case (Ok e) output faults) (sym is) (inr (reason, meets, told, may))
