-- What is delivered is the verdict's line with the lines of the explanation below it.
use Rattle.std.proofs.Common.{◌≡◌, ◌++◌, None, refl, rules}
use Rattle.ws_frame.specs.Devices.{watched}
use Rattle.ws_frame.specs.declared.source.DataStyle.TheVariants.{Hex}
use Rattle.wst_commands.specs.Explaining.{ending_line, explanation_lines}
use Rattle.wst_commands.specs.InnerExplaining.{explained_text, lines_after_replies}
use Rattle.wst_commands.specs.Judge.{exit_of, verdict_line}
use Rattle.wst_commands.specs.declared.explanation_lines.Side.TheVariants.{Due, Got}
use Rattle.wst_commands.proofs.Delivering.{delivers_same}
use Rattle.wst_commands.proofs.Told.{explained_is}
use Rattle.wst_commands.proofs.judge.tell_lines.Goals as goal

pub returns : goal.returns
returns g c =
    let lines = c.args.lines.now in
    let x = lines.explanation.now in
    let line = c.as_str.result.now in
    let due_end = c.as_str-2.result.now in
    let got_end = c.as_str-3.result.now in
    let line_is : line ≡ verdict_line x.verdict = search rules in
    let due_is : due_end ≡ ending_line Due None x.due.ending = search rules in
    let got_is : got_end ≡ ending_line Got x.found.fault x.got.ending
    ++ lines_after_replies lines.tested lines.expected lines.cut x = search rules in
    delivers_same (exit_of x.verdict) (exit_of x.verdict) (explained_text line x due_end got_end)
    (verdict_line x.verdict ++ explanation_lines Hex lines.tested lines.expected lines.cut x) c.deliver_explained.result
    (watched g.W.Write.contents c.args.writer.now c.deliver_explained.new.writer) refl
    (explained_is x lines.tested lines.expected lines.cut line due_end got_end line_is due_is got_is)
    c.deliver_explained.ensures
