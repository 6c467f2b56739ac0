-- What is printed are the lines of the case.
use Rattle.std.proofs.Common.{◌≡◌, ◌∙◌, rules}
use Rattle.ws_scripts.specs.InnerScripting.{script_text}
use Rattle.ws_scripts.proofs.ScriptWriting.{printed}
use Rattle.ws_scripts.proofs.script_text.writing.write_script.Goals as goal

pub returns : goal.returns
returns c =
    let lines : c.into_bytes.result.items ≡ script_text c.args.case.now = search rules in
    lines ∙ printed c.args.case.now
