-- What the lines tell is the script, it can be run, and where they stop to tell one the text is damaged.
use Rattle.std.proofs.Common.{subst}
use Rattle.ws_formats.specs.Lines.{IsDamagedAt, IsTextOfLines}
use Rattle.ws_scripts.specs.declared.script_text.reading.PartialScript.{PartialScript}
use Rattle.ws_scripts.specs.InnerScripting.{TellScript}
use Rattle.ws_scripts.proofs.ScriptParts.{damaged_script}
use Rattle.ws_scripts.proofs.ScriptRuns.{named_read}
use Rattle.ws_scripts.proofs.script_text.reading.read_script.Goals as goal

pub returns-in-Ok-clause-read : goal.returns-in-Ok-clause-read
returns-in-Ok-clause-read c =
    (named_read c.none.result c.in-Ok.script c.args.text.now c.named.result c.none.ensures c.in-Ok.ensures
    c.named.ensures.script c.named.ensures.memory).0

pub returns-in-Ok-clause-runs : goal.returns-in-Ok-clause-runs
returns-in-Ok-clause-runs c =
    (named_read c.none.result c.in-Ok.script c.args.text.now c.named.result c.none.ensures c.in-Ok.ensures
    c.named.ensures.script c.named.ensures.memory).1

pub returns-in-Err-clause-read : goal.returns-in-Err-clause-read
returns-in-Err-clause-read c = λ n e.
    let text = c.args.text.now in
    damaged_script n text
    (subst (λ (p : PartialScript). IsDamagedAt (IsTextOfLines (TellScript p)) n text) c.none.ensures
    (c.in-Err.ensures n e))
