-- What stands behind the cases is written, and told where that is a document.
use Rattle.std.proofs.Common.{rules, ◌≡◌, ◌∙◌, List, ℕ, ap, subst}
use Rattle.ws_frame.specs.Devices.{watched}
use Rattle.wst_commands.proofs.Delivering.{delivers_same}
use Rattle.wst_testing.specs.Notes.{TellsEach}
use Rattle.wst_testing.specs.Outcomes.{count_in}
use Rattle.wst_testing.specs.Reporting.{exit_of_report}
use Rattle.wst_clients.specs.ClientLines.{behind_for, beside_for, end_for}
use Rattle.wst_clients.proofs.testing_clients.tell_enough.Goals as goal

pub returns-clause-is : goal.returns-clause-is
returns-clause-is g c =
    let telling = c.args.rules.now.telling in
    let score = c.args.score.now in
    let counted = c.in_ok-behind.ensures ∙ ap (λ (n : ℕ). behind_for telling n score) c.count.ensures in
    let behind = behind_for telling (count_in score.tally) score in
    let last = end_for telling behind in
    let name : c.as_str.result.now ≡ behind = search rules in
    let text : c.as_bytes.result.now ≡ last = search rules in
    let told : c.as_str-2.result.now ≡ behind = search rules in (
      delivers_same c.exit.result (exit_of_report score.is_failed) c.as_bytes.result.now last c.deliver-exit.result
          (watched g.W.Write.contents c.args.writer.now c.deliver-exit.new.writer) c.exit.ensures text c.deliver-exit.ensures,
      subst (λ (l : List ℕ). TellsEach (beside_for telling l)
          (watched g.F.Write.contents c.args.faults.now c.tell_beside_for.new.faults)) told c.tell_beside_for.ensures.told,
    )
