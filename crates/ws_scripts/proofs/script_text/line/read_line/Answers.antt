-- What is no empty line, no chop and no step is no line.
use Rattle.std.proofs.Common.{rules}
use Rattle.ws_scripts.specs.ScriptLines.{IsBlankLine}
use Rattle.ws_scripts.proofs.ScriptSteps.{none_of_three}
use Rattle.ws_scripts.proofs.script_text.line.read_line.Goals as goal

pub returns-in-Err : goal.returns-in-Err
returns-in-Err c = λ e line h.
    let not_blank : IsBlankLine c.args.words.now → ⊥ = λ blank. search rules in
    none_of_three c.args.words.now not_blank c.in_default.ensures (c.in-Err.ensures e) line h
