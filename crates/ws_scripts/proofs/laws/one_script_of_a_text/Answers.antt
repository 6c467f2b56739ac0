-- A text tells one script.
use Rattle.std.proofs.Common.{ap}
use Rattle.ws_scripts.specs.declared.script_text.reading.Script.{Script}
use Rattle.ws_scripts.specs.ScriptTexts.{script_in}
use Rattle.ws_scripts.proofs.ScriptParts.{one_script}
use Rattle.ws_scripts.proofs.laws.one_script_of_a_text.Goals as goal

pub returns : goal.returns
returns c = λ text one other p q.
    let same = one_script (script_in one) (script_in other) text p q in
    (ap (λ (s : Script). s.steps) same, ap (λ (s : Script). s.chop) same)
