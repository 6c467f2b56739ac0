-- What is delivered is the verdict's line, and what stands below it.
use Rattle.std.proofs.Common.{◌≡◌, ◌++◌, ◌∙◌, append_assoc, codes, rules, string_bytes, sym}
use Rattle.ws_frame.specs.Devices.{watched}
use Rattle.ws_suite.specs.Words.{verdict_words}
use Rattle.wst_commands.specs.Judge.{exit_of, verdict_line}
use Rattle.wst_commands.proofs.Delivering.{delivers_same}
use Rattle.wst_commands.proofs.judge.tell_judgement.Goals as goal

pub returns : goal.returns
returns g c =
    let told = c.args.told.now in
    let text = c.as_bytes.result.now in
    let below = string_bytes told.below in
    let parts : text ≡ verdict_words told.verdict ++ (codes "\n" ++ below) = search rules in
    let is : text ≡ verdict_line told.verdict ++ below =
    parts ∙ sym (append_assoc (verdict_words told.verdict) (codes "\n") below) in
    delivers_same c.exit_of.result (exit_of told.verdict) text (verdict_line told.verdict ++ below) c.deliver.result
    (watched g.W.Write.contents c.args.writer.now c.deliver.new.writer) c.exit_of.ensures is c.deliver.ensures
