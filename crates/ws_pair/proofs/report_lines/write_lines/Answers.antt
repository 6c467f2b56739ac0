-- All lines are put, and what waits at the end is written, unless a write had failed before.
use Rattle.std.proofs.Common.{◌≡◌, ℕ, [], List, ap, rules, false, subst, sym, true}
use Rattle.std.specs.List.{flat_map}
use Rattle.ws_frame.specs.Devices.{watched}
use Rattle.ws_frame.specs.Watching.{has_failed}
use Rattle.ws_pair.specs.declared.report.Answer.{Answer}
use Rattle.ws_pair.specs.ReportLines.{answer_line}
use Rattle.ws_pair.specs.InnerPrinting.{IsDue}
use Rattle.ws_pair.proofs.Putting.{both_put, due_first, due_flushed, due_stopped, same_put}
use Rattle.ws_pair.proofs.report_lines.write_lines.Goals as goal

pub returns-then-failed : goal.returns-then-failed
returns-then-failed g c =
    let k = g.W.Write.contents in
    let all = both_put k _ _ _ _ _ _ _ _
    (same_put k _ _ _ _ _ _ (ap (λ (l : List Answer). flat_map answer_line l) c.as_slice.ensures.value) c.put_answers.ensures)
    (both_put k _ _ _ _ _ _ _ _ c.put_end.ensures c.put_end-2.ensures) in
    let due = all c.args.writer.now [] (subst (λ (l : List ℕ). IsDue [] l (watched k c.args.writer.now c.args.writer.now)) (sym c.new-room.ensures) (due_first _ _ c.requires)) in
    let failed : has_failed c.put_end-2.new.writer ≡ true = search rules in
    due_stopped _ _ _ _ _ failed due

pub returns : goal.returns
returns g c =
    let k = g.W.Write.contents in
    let all = both_put k _ _ _ _ _ _ _ _
    (same_put k _ _ _ _ _ _ (ap (λ (l : List Answer). flat_map answer_line l) c.as_slice.ensures.value) c.put_answers.ensures)
    (both_put k _ _ _ _ _ _ _ _ c.put_end.ensures c.put_end-2.ensures) in
    let due = all c.args.writer.now [] (subst (λ (l : List ℕ). IsDue [] l (watched k c.args.writer.now c.args.writer.now)) (sym c.new-room.ensures) (due_first _ _ c.requires)) in
    let works : has_failed c.put_end-2.new.writer ≡ false = search rules in
    due_flushed _ _ _ _ _ _ _ _ _ works due c.flush.ensures.written c.flush.ensures.empty
