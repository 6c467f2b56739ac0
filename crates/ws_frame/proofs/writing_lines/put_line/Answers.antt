-- Where the waiting lines can't be written, a beginning of them was, and the new line is still due behind the rest.
use Rattle.std.proofs.Common.{◌++◌, ◌∙◌, List, ℕ, ap, append_assoc}
use Rattle.std.proofs.lemmas.Result.{err_from_is_err_and}
use Rattle.ws_wire.specs.Masking.{masked_payload}
use Rattle.ws_frame.specs.Lines.{data_word, line_with}
use Rattle.ws_frame.proofs.writing_lines.put_line.Goals as goal

pub returns-in_err-make_room : goal.returns-in_err-make_room
returns-in_err-make_room g c =
    let line = line_with c.args.source c.args.offset c.args.header
    (data_word c.args.header.len (masked_payload c.args.header.key c.args.first)) in
    let (front, more, wrote, failed, due) = c.in_err-make_room.ensures.written in
    let p = err_from_is_err_and c.from_residual.result c.from_residual.ensures.1 in
    rw p.1 (front, more ++ line, wrote, failed, ap (λ (t : List ℕ). t ++ line) due ∙ append_assoc front more line)
