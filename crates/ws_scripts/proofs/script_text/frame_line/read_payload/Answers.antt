-- The payload is what the data after the name tells.
use Rattle.std.proofs.Common.{List, ℕ}
use Rattle.ws_formats.proofs.PassedUp.{passed_up}
use Rattle.ws_scripts.specs.declared.script_text.frame_line.FrameName.TheVariants.{CloseWith}
use Rattle.ws_scripts.specs.ScriptLines.{IsDataWord, IsPayloadField}
use Rattle.ws_scripts.proofs.ScriptFrames.{kind_data, of_name}
use Rattle.ws_scripts.proofs.script_text.frame_line.read_payload.Goals as goal

pub returns-in_err-payload-in-Kind : goal.returns-in_err-payload-in-Kind
returns-in_err-payload-in-Kind c =
    passed_up (λ (bytes : List ℕ). IsDataWord bytes c.in-Some.word.now) _ c.from_residual.result
    c.in_err-payload-in-Kind.field-0.0 c.from_residual.ensures.1 c.in_err-payload-in-Kind.ensures
    (λ payload h. (
      payload,
      kind_data c.args.name c.in-Kind.field-0 payload c.args.text.now c.in-Some.word.now c.in-Kind.is
          c.in-Some.ensures h,
    ))

pub returns-in_err-payload-in-CloseWith : goal.returns-in_err-payload-in-CloseWith
returns-in_err-payload-in-CloseWith c =
    passed_up (λ (bytes : List ℕ). IsPayloadField (CloseWith c.in-CloseWith.code) bytes c.args.text.now) _
    c.from_residual-in_err-payload-in-CloseWith.result c.in_err-payload-in-CloseWith.field-0.0
    c.from_residual-in_err-payload-in-CloseWith.ensures.1 c.in_err-payload-in-CloseWith.ensures
    (λ payload h. (
      payload,
      of_name c.args.name (CloseWith c.in-CloseWith.code) payload c.args.text.now c.in-CloseWith.is h,
    ))
