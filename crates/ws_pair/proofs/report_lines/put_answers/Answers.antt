-- Move after move: one line more is put.
use Rattle.std.proofs.Common.{◌∙◌, ap, sym, arith, drop, rules, take, true, ◌≡◌, List}
use Rattle.std.proofs.lemmas.List.{take-append-drop, take_all, take_more}
use Rattle.std.specs.List.{flat_map}
use Rattle.ws_frame.specs.Watching.{has_failed}
use Rattle.ws_pair.specs.declared.report.Answer.{Answer}
use Rattle.ws_pair.specs.declared.report.Answer.TheVariants.{Did}
use Rattle.ws_pair.specs.ReportLines.{answer_line}
use Rattle.ws_pair.proofs.Putting.{both_put, flat_all, flat_more, none_put, same_put, stopped_put}
use Rattle.ws_pair.proofs.report_lines.put_answers.Goals as goal

pub loop-answer-init : goal.loop-answer-init
loop-answer-init g c = none_put g.W.Write.contents c.args.room.now c.args.writer.now

pub loop-answer-preserved : goal.loop-answer-preserved
loop-answer-preserved g c =
    let i = c.loop-answer.answer-index in
    let answers : List Answer = c.args.answers.now in
    same_put g.W.Write.contents _ _ _ _ _ _
    (sym (flat_more answer_line (take i answers) _) ∙ ap (λ (l : List Answer). flat_map answer_line l) (sym (take_more answers i Did c.loop-answer-test.true)))
    (both_put g.W.Write.contents _ _ _ _ _ _ _ _ c.loop-answer.invariant c.put_answer.ensures)

pub returns : goal.returns
returns g c =
    same_put g.W.Write.contents _ _ _ _ _ _
    (ap (λ (l : List Answer). flat_map answer_line l) (take_all c.loop-answer.answer-index c.args.answers.now (omega (arith, c.loop-answer-test.false))))
    c.loop-answer.invariant

pub returns-then-failed : goal.returns-then-failed
returns-then-failed g c =
    let i = c.loop-answer.answer-index in
    let answers : List Answer = c.args.answers.now in
    let failed : has_failed c.loop-answer.writer ≡ true = search rules in
    same_put g.W.Write.contents _ _ _ _ _ _
    (flat_all answer_line (take i answers) (drop i answers) answers (sym (take-append-drop i answers)))
    (stopped_put g.W.Write.contents (flat_map answer_line (take i answers)) (flat_map answer_line (drop i answers))
    _ _ _ _ failed c.loop-answer.invariant)
