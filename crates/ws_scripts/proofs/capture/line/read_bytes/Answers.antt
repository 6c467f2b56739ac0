-- A line has at least one byte, so a dash spells none.
use Rattle.std.proofs.Common.{◌∙◌, sym}
use Rattle.ws_scripts.proofs.CaptureWords.{dash_is_none, hex_of_bytes}
use Rattle.ws_scripts.proofs.capture.line.read_bytes.Goals as goal

pub returns-then-len-eq0 : goal.returns-then-len-eq0
returns-then-len-eq0 c = λ e bytes h. dash_is_none c.in-Ok.bytes bytes c.args.word.now
    (sym c.len.ensures ∙ c.if-len-eq0.true) c.in-Ok.ensures h

pub returns-in-Err : goal.returns-in-Err
returns-in-Err c = λ e bytes h. c.in-Err.ensures e bytes (hex_of_bytes bytes c.args.word.now h)
