-- The line of the verdict is put, then the lines of both sides, and what waits at the end is written.
use Rattle.std.proofs.Common.{◌≡◌, ◌∙◌, ℕ, List, [], ◌++◌, ap, append_assoc, append-nil, refl, rules, sym}
use Rattle.std.specs.List.{flat_map}
use Rattle.ws_rooms.proofs.Waiting.{all_written, begun_more, stands, stands_behind, stops_all}
use Rattle.ws_frame.specs.declared.source.DataStyle.TheVariants.{Hex}
use Rattle.wst_commands.specs.Explaining.{reply_line}
use Rattle.wst_commands.specs.declared.explanation_lines.Side.TheVariants.{Due, Got}
use Rattle.wst_commands.proofs.PutBehind.{begun_on}
use Rattle.wst_commands.proofs.writing_explanation.write_explained.Goals as goal

pub returns-in_err-put : goal.returns-in_err-put
returns-in_err-put g c =
    let line = c.args.line.now in
    let x = c.args.explanation.now in
    let due = flat_map (reply_line Hex Due) x.due.replies ++ c.args.due_end.now in
    let got = flat_map (reply_line Hex Got) x.got.replies ++ c.args.got_end.now in
    let all = line ++ (due ++ got) in
    let head = c.new-room.result ++ c.as_bytes.result.now in
    let is : head ≡ line = search rules in
    stops_all all _ _ _ c.from_residual.result c.in_err-put.field-0.0 c.from_residual.ensures.1
    (begun_more head (due ++ got) all _ _ (ap (λ (l : List ℕ). l ++ (due ++ got)) (sym is)) c.in_err-put.ensures.0)
    c.in_err-put.ensures.1

pub returns-in_err-put_side : goal.returns-in_err-put_side
returns-in_err-put_side g c =
    let line = c.args.line.now in
    let x = c.args.explanation.now in
    let due = flat_map (reply_line Hex Due) x.due.replies ++ c.args.due_end.now in
    let got = flat_map (reply_line Hex Got) x.got.replies ++ c.args.got_end.now in
    let all = line ++ (due ++ got) in
    let head = c.new-room.result ++ c.as_bytes.result.now in
    let is : head ≡ line = search rules in
    stops_all all _ _ _ c.from_residual-in_err-put_side.result c.in_err-put_side.field-0.0
    c.from_residual-in_err-put_side.ensures.1
    (begun_on head c.put.new.room due got all _ _ _ (stands head c.put.new.room _ _ _ c.in_ok-put.ensures)
    (ap (λ (l : List ℕ). l ++ (due ++ got)) (sym is)) c.in_err-put_side.ensures.0) c.in_err-put_side.ensures.1

pub returns-in_err-put_side-2 : goal.returns-in_err-put_side-2
returns-in_err-put_side-2 g c =
    let line = c.args.line.now in
    let x = c.args.explanation.now in
    let due = flat_map (reply_line Hex Due) x.due.replies ++ c.args.due_end.now in
    let got = flat_map (reply_line Hex Got) x.got.replies ++ c.args.got_end.now in
    let all = line ++ (due ++ got) in
    let head = c.new-room.result ++ c.as_bytes.result.now in
    let is : head ≡ line = search rules in
    let first = stands_behind head c.put.new.room due (head ++ due) c.put_side.new.room _ _ _
    (stands head c.put.new.room _ _ _ c.in_ok-put.ensures) refl
    (stands (c.put.new.room ++ due) c.put_side.new.room _ _ _ c.in_ok-put_side.ensures) in
    stops_all all _ _ _ c.from_residual-in_err-put_side-2.result c.in_err-put_side-2.field-0.0
    c.from_residual-in_err-put_side-2.ensures.1
    (begun_on (head ++ due) c.put_side.new.room got [] all _ _ _ first
    (ap (λ (l : List ℕ). l ++ (due ++ got)) (sym is)
    ∙ (sym (append_assoc head due got) ∙ ap (λ (l : List ℕ). (head ++ due) ++ l) (sym (append-nil got))))
    c.in_err-put_side-2.ensures.0) c.in_err-put_side-2.ensures.1

pub returns : goal.returns
returns g c =
    let line = c.args.line.now in
    let x = c.args.explanation.now in
    let due = flat_map (reply_line Hex Due) x.due.replies ++ c.args.due_end.now in
    let got = flat_map (reply_line Hex Got) x.got.replies ++ c.args.got_end.now in
    let all = line ++ (due ++ got) in
    let head = c.new-room.result ++ c.as_bytes.result.now in
    let is : head ≡ line = search rules in
    let first = stands_behind head c.put.new.room due (head ++ due) c.put_side.new.room _ _ _
    (stands head c.put.new.room _ _ _ c.in_ok-put.ensures) refl
    (stands (c.put.new.room ++ due) c.put_side.new.room _ _ _ c.in_ok-put_side.ensures) in
    let last = c.put_side-2.new.room in
    all_written all last c.flush.new.room _ _ _ _ c.flush.result
    (stands_behind (head ++ due) c.put_side.new.room got all last _ _ _ first
    (ap (λ (l : List ℕ). l ++ (due ++ got)) (sym is) ∙ sym (append_assoc head due got))
    (stands (c.put_side.new.room ++ got) last _ _ _ c.in_ok-put_side-2.ensures)) c.flush.ensures.written c.flush.ensures.empty
