-- The first word of a frame's line is its name, and what follows tells the rest.
use Rattle.ws_formats.proofs.PassedUp.{passed_up}
use Rattle.ws_scripts.specs.declared.script.Step.{Step}
use Rattle.ws_scripts.specs.InnerScripting.{IsFrameRest}
use Rattle.ws_scripts.proofs.ScriptFrames.{line_of_rest, name_of_line, rest_of_line}
use Rattle.ws_scripts.proofs.script_text.line.read_frame_line.Goals as goal

pub returns-in_default : goal.returns-in_default
returns-in_default c = λ e step h.
    let name = name_of_line c.args.words.now c.cut_word.result.0.now c.cut_word.result.1.now step c.cut_word.ensures
    h in
    c.in_default.ensures name.0 (name.1, name.2)

pub returns-in_err-step : goal.returns-in_err-step
returns-in_err-step c =
    let words = c.args.words.now in
    let word = c.cut_word.result.0.now in
    let rest = c.cut_word.result.1.now in
    let name = c.in-Some.name in
    passed_up (λ (step : Step). IsFrameRest name step rest) _ c.from_residual.result c.in_err-step.field-0.0
    c.from_residual.ensures.1 c.in_err-step.ensures
    (λ step h. (
      step,
      rest_of_line words word rest step name c.cut_word.ensures c.in-Some.ensures.0 c.in-Some.ensures.1 h,
    ))

pub returns : goal.returns
returns c =
    line_of_rest c.args.words.now c.cut_word.result.0.now c.cut_word.result.1.now c.in_ok-step.step c.in-Some.name
    c.cut_word.ensures.0 c.in-Some.ensures.0 c.in-Some.ensures.1 c.in_ok-step.ensures
