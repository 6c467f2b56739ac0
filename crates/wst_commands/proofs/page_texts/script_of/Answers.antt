-- The text is that of the case, and the name too.
use Rattle.std.proofs.Common.{rules, ◌≡◌, ◌∙◌, string_bytes, sym}
use Rattle.ws_scripts.specs.ScriptTexts.{written_script}
use Rattle.ws_scripts.specs.Scripts.{CanBeRun}
use Rattle.wst_commands.proofs.NamedScripts.{same_named}
use Rattle.wst_commands.proofs.page_texts.script_of.Goals as goal

pub returns : goal.returns
returns c =
    let case = c.in-Some.case in
    let runs : CanBeRun case = search rules in
    let called : string_bytes case.id ≡ c.args.name.now = search rules in
    let copied : c.in_ok-to_vec.field-0.items ≡ c.as_bytes.result.now = search rules in
    let text : c.from_vec-2.result ≡ written_script case = search rules in (
      case,
      runs,
      called,
      same_named c.from_vec.result c.from_vec-2.result (string_bytes case.id) (written_script case)
          (c.from_vec.ensures ∙ copied ∙ c.as_bytes.ensures.value ∙ sym called) text,
    )
