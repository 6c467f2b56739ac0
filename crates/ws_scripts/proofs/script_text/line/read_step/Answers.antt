-- What waits for nothing is the line of bytes as they are, or of a frame.
use Rattle.std.proofs.Common.{◌≢◌, List, ℕ, codes, rules}
use Rattle.ws_formats.proofs.PassedUp.{passed_up}
use Rattle.ws_scripts.specs.declared.script.Step.{Step}
use Rattle.ws_scripts.specs.ScriptLines.{IsDataWord, IsFrameStepLine}
use Rattle.ws_scripts.proofs.ScriptSteps.{frame_line_of, raw_data}
use Rattle.ws_scripts.proofs.script_text.line.read_step.Goals as goal

pub returns-in_err-bytes-in-Some : goal.returns-in_err-bytes-in-Some
returns-in_err-bytes-in-Some c =
    passed_up (λ (bytes : List ℕ). IsDataWord bytes c.in-Some.word.now) _ c.from_residual.result
    c.in_err-bytes-in-Some.field-0.0 c.from_residual.ensures.1 c.in_err-bytes-in-Some.ensures
    (λ step h. raw_data step c.args.words.now c.in-Some.word.now c.in-Some.ensures h)

pub returns-in_err-step-in-None : goal.returns-in_err-step-in-None
returns-in_err-step-in-None c =
    let words = c.args.words.now in
    let not_wait : words ≢ codes "wait" = search rules in
    passed_up (λ (step : Step). IsFrameStepLine step words) _ c.from_residual-in_err-step-in-None.result
    c.in_err-step-in-None.field-0.0 c.from_residual-in_err-step-in-None.ensures.1 c.in_err-step-in-None.ensures
    (λ step h. (step, frame_line_of step words not_wait c.in-None.ensures h))
