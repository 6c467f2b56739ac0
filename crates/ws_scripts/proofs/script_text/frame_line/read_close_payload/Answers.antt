-- After the code stands data, or nothing.
use Rattle.std.proofs.Common.{◌≡◌, ◌++◌, List, ℕ, rules}
use Rattle.std.specs.Int.{w16, to_be_bytes}
use Rattle.ws_formats.proofs.PassedUp.{passed_up}
use Rattle.ws_scripts.specs.ScriptLines.{IsDataWord}
use Rattle.ws_scripts.proofs.ScriptFrames.{close_data, close_read}
use Rattle.ws_scripts.proofs.script_text.frame_line.read_close_payload.Goals as goal

pub returns-in_err-data : goal.returns-in_err-data
returns-in_err-data c =
    passed_up (λ (bytes : List ℕ). IsDataWord bytes c.in-Some.word.now) _ c.from_residual-in_err-data.result
    c.in_err-data.field-0.0 c.from_residual-in_err-data.ensures.1 c.in_err-data.ensures
    (λ payload h. close_data c.args.code payload c.args.text.now c.in-Some.word.now c.in-Some.ensures h)

pub returns : goal.returns
returns c =
    let joined : c.from_vec-2.result ≡ to_be_bytes w16 c.args.code ++ c.in_ok-data.data = search rules in
    close_read c.args.code c.in_ok-data.data c.from_vec-2.result c.args.text.now c.in-Some.word.now c.in-Some.ensures
    c.in_ok-data.ensures joined
