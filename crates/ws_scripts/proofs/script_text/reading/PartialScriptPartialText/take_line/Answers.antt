-- The words tell one line, and what it makes is what it makes in each text; or they tell none.
use Rattle.ws_scripts.proofs.ScriptParts.{line_taken, none_taken}
use Rattle.ws_scripts.proofs.script_text.reading.PartialScriptPartialText.take_line.Goals as goal

pub returns-in-Ok : goal.returns-in-Ok
returns-in-Ok c = line_taken c.args.self c.in-Ok.line c.args.line.now c.with.result c.in-Ok.ensures c.with.ensures

pub returns-in-Err : goal.returns-in-Err
returns-in-Err c = none_taken c.args.self c.args.line.now c.in-Err.fault c.in-Err.ensures
