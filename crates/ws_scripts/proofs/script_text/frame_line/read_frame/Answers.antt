-- The fields and the payload of a frame are read in one way, or there is no such frame.
use Rattle.std.proofs.Common.{List, ℕ}
use Rattle.ws_formats.proofs.PassedUp.{passed_up}
use Rattle.ws_scripts.specs.declared.script.Step.{Step}
use Rattle.ws_scripts.specs.ScriptLines.{IsPayloadField}
use Rattle.ws_scripts.specs.InnerScripting.{IsLaidOut}
use Rattle.ws_scripts.proofs.ScriptFrames.{frame_laid_out, frame_payload}
use Rattle.ws_scripts.proofs.script_text.frame_line.read_frame.Goals as goal

pub returns-in_default : goal.returns-in_default
returns-in_default c = λ e step h. c.in_default.ensures h.fields h.last h.cut

pub returns-in_err-payload : goal.returns-in_err-payload
returns-in_err-payload c =
    passed_up (λ (bytes : List ℕ). IsPayloadField c.args.name bytes c.in-Some.last.now) _ c.from_residual.result
    c.in_err-payload.field-0.0 c.from_residual.ensures.1 c.in_err-payload.ensures
    (λ step h. frame_payload step c.args.name c.args.text.now c.in-Some.fields c.in-Some.last.now c.in-Some.ensures h)

pub returns-in_err-step : goal.returns-in_err-step
returns-in_err-step c =
    passed_up (λ (step : Step). IsLaidOut c.in-Some.fields c.opcode.result c.in_ok-payload.payload step) _
    c.from_residual-in_err-step.result c.in_err-step.field-0.0 c.from_residual-in_err-step.ensures.1
    c.in_err-step.ensures
    (λ step h. (
      step,
      frame_laid_out step c.args.name c.args.text.now c.in-Some.fields c.in-Some.last.now c.opcode.result
          c.in_ok-payload.payload c.opcode.ensures c.in-Some.ensures c.in_ok-payload.ensures h,
    ))
