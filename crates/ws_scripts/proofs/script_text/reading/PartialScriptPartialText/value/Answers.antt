-- What was read is a script, after any line.
use Rattle.std.proofs.Common.{List, [], ap, refl}
use Rattle.ws_scripts.specs.declared.script.Chop.{Chop}
use Rattle.ws_scripts.specs.declared.script.Step.{Step}
use Rattle.ws_scripts.specs.declared.script_text.reading.Script.{Script}
use Rattle.ws_scripts.proofs.script_text.reading.PartialScriptPartialText.value.Goals as goal

abbrev script : List Step → Chop → Script
script steps chop = record { steps = steps; chop = chop }

pub returns : goal.returns
returns c = ([], tt, c.args.self, refl, ap (script c.args.self.steps) c.chop_or_whole-chop.ensures)
