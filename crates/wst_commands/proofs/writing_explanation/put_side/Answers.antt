-- The lines of the replies are put, and then what stands behind them.
use Rattle.std.proofs.Common.{◌≡◌, ◌∙◌, ℕ, List, ◌++◌, ap, append_assoc, rules, sym}
use Rattle.std.specs.List.{flat_map}
use Rattle.ws_rooms.proofs.Waiting.{begun_more, some_behind, stands, stops}
use Rattle.ws_frame.specs.declared.source.DataStyle.TheVariants.{Hex}
use Rattle.wst_commands.specs.Explaining.{reply_line}
use Rattle.wst_commands.proofs.writing_explanation.put_side.Goals as goal

pub returns-in_err-put_replies : goal.returns-in_err-put_replies
returns-in_err-put_replies g c =
    let room = c.args.room.now in
    let lines = flat_map (reply_line Hex c.args.side) c.args.replies.now in
    let end = c.args.end.now in
    stops (room ++ (lines ++ end)) _ _ _ _ c.from_residual.result c.in_err-put_replies.field-0.0 c.from_residual.ensures.1
    (begun_more (room ++ lines) end (room ++ (lines ++ end)) _ _ (sym (append_assoc room lines end))
    c.in_err-put_replies.ensures.0) c.in_err-put_replies.ensures.1

pub returns : goal.returns
returns g c =
    let room = c.args.room.now in
    let lines = flat_map (reply_line Hex c.args.side) c.args.replies.now in
    let end = c.args.end.now in
    let bytes = c.as_bytes.result.now in
    let same : bytes ≡ end = search rules in
    some_behind (room ++ lines) c.put_replies.new.room bytes (room ++ (lines ++ end)) c.put.new.room _ _ _ _ c.put.result
    (stands (room ++ lines) c.put_replies.new.room _ _ _ c.in_ok-put_replies.ensures)
    (ap (λ (l : List ℕ). room ++ (lines ++ l)) (sym same) ∙ sym (append_assoc room lines bytes)) c.put.ensures
