-- The text that is told is the line.
use Rattle.std.proofs.Common.{◌≡◌, ◌∙◌, ℕ, List, ap, length, subst, sym}
use Rattle.std.proofs.KnownBytes.{Keeps-refl}
use Rattle.ws_frame.specs.Devices.{watched}
use Rattle.wst_commands.specs.Devices.{Tells}
use Rattle.wst_commands.specs.declared.time_limit.TimeLimit.{TimeLimit}
use Rattle.wst_clients.specs.LateClients.{late_line, late_texts, run_count}
use Rattle.wst_testing.specs.Notes.{TellsEach}
use Rattle.wst_clients.proofs.late_clients.tell_late.Goals as goal

pub returns-in_ok-line-in-Seconds-clause-told : goal.returns-in_ok-line-in-Seconds-clause-told
returns-in_ok-line-in-Seconds-clause-told g c =
    let faults = watched g.F.Write.contents c.args.faults.now c.tell.new.faults in
    let all = length c.args.cases.now in
    let run = run_count c.args.standing.now.behaviors in
    let text : c.as_bytes.result.now ≡ late_line c.in-Seconds.seconds run all =
    c.as_bytes.ensures.value ∙ c.in_ok-line-in-Seconds.ensures
    ∙ ap (λ (n : ℕ). late_line c.in-Seconds.seconds n all) c.run_count.ensures in
    subst (λ (wait : TimeLimit). TellsEach (late_texts wait run all) faults) (sym c.in-Seconds.is)
    (faults.new, subst (λ (l : List ℕ). Tells l faults) text c.tell.ensures.told, Keeps-refl faults.new)
