-- What stands behind the turns is written, and told where that is a document.
use Rattle.std.proofs.Common.{◌≡◌, ◌∙◌, List, Ok, Result, ap, rules, string_bytes, subst, sym, ℕ}
use Rattle.ws_frame.specs.Devices.{watched}
use Rattle.wst_commands.proofs.Delivering.{delivers_same}
use Rattle.wst_commands.specs.declared.fault.Fault.{Fault}
use Rattle.wst_testing.specs.Notes.{TellsEach}
use Rattle.wst_testing.specs.Reporting.{exit_of_report}
use Rattle.wst_clients.specs.ClientLines.{beside_for}
use Rattle.wst_clients.specs.ClientTests.{TellsEndOf}
use Rattle.wst_clients.specs.declared.testing_clients.VisitsEnd.{VisitsEnd}
use Rattle.wst_clients.proofs.testing_clients.tell_end.Goals as goal

pub returns-in_ok-lines-in-Ended-clause-tells : goal.returns-in_ok-lines-in-Ended-clause-tells
returns-in_ok-lines-in-Ended-clause-tells g c =
    let given = c.args.rules.now in
    let counted = c.last_lines.new.score in
    let lines = string_bytes c.in_ok-lines-in-Ended.lines in
    let behind = string_bytes c.in_ok-lines-in-Ended.behind in
    let text : c.as_bytes.result.now ≡ lines = search rules in
    let name : c.as_str.result.now ≡ behind = search rules in
    let output = watched g.W.Write.contents c.args.writer.now c.deliver-exit.new.writer in
    let faults = watched g.F.Write.contents c.args.faults.now c.tell_beside_for.new.faults in
    let told = delivers_same c.exit.result (exit_of_report counted.is_failed) c.as_bytes.result.now lines
    c.deliver-exit.result output c.exit.ensures text c.deliver-exit.ensures in
    let beside = subst (λ (l : List ℕ). TellsEach (beside_for given.telling l) faults) name c.tell_beside_for.ensures.told in
    subst (λ (e : Result VisitsEnd Fault). TellsEndOf given e (Ok c.deliver-exit.result)
    (c.deliver-exit.new.writer ≡ c.args.writer.now) (c.tell_beside_for.new.faults ≡ c.args.faults.now) output faults)
    (sym (c.in_ok-end.was ∙ ap (λ (e : VisitsEnd). Ok e) c.in-Ended.is))
    (lines, behind, counted, c.in_ok-lines-in-Ended.ensures, told, beside)
