-- The first two lines are put, then the others as they are joined, and what waits at the end is written.
use Rattle.std.proofs.Common.{◌≡◌, ◌++◌, List, ℕ, None, ap, codes, rules, sym}
use Rattle.ws_capture_text.specs.InnerJoining.{joined_lines}
use Rattle.ws_rooms.proofs.Waiting.{all_written, begun_behind, begun_more, stands, stands_behind, stops_all}
use Rattle.ws_capture_text.proofs.joining.write_joined.Goals as goal

pub returns-in_err-put : goal.returns-in_err-put
returns-in_err-put g c = λ all are e.
    let head = c.new-room.result ++ c.as_slice.result.now in
    let is : head ≡ codes "wst-capture 2\nkey -\n" = search rules in
    let joined = joined_lines None all in
    let due = codes "wst-capture 2\nkey -\n" ++ joined in
    stops_all due _ _ _ c.from_residual.result c.in_err-put.field-0.0 c.from_residual.ensures.1
    (begun_more head joined due _ _ (ap (λ (l : List ℕ). l ++ joined) (sym is)) c.in_err-put.ensures.0)
    c.in_err-put.ensures.1

pub returns-in_err-put_lines : goal.returns-in_err-put_lines
returns-in_err-put_lines g c = λ all are e.
    let head = c.new-room.result ++ c.as_slice.result.now in
    let is : head ≡ codes "wst-capture 2\nkey -\n" = search rules in
    let joined = joined_lines None all in
    let due = codes "wst-capture 2\nkey -\n" ++ joined in
    let wrong = c.in_err-put_lines.ensures.written all are e in
    stops_all due _ _ _ c.from_residual-in_err-put_lines.result c.in_err-put_lines.field-0.0
    c.from_residual-in_err-put_lines.ensures.1
    (begun_behind head c.put.new.room joined due _ _ _ (stands head c.put.new.room _ _ _ c.in_ok-put.ensures)
    (ap (λ (l : List ℕ). l ++ joined) (sym is)) wrong.0) wrong.1

pub returns : goal.returns
returns g c = λ all are e.
    let head = c.new-room.result ++ c.as_slice.result.now in
    let is : head ≡ codes "wst-capture 2\nkey -\n" = search rules in
    let joined = joined_lines None all in
    let due = codes "wst-capture 2\nkey -\n" ++ joined in
    let put = c.put.new.room in
    let left = c.put_lines.new.room in
    all_written due left c.flush.new.room _ _ _ _ c.flush.result
    (stands_behind head put joined due left _ _ _ (stands head put _ _ _ c.in_ok-put.ensures)
    (ap (λ (l : List ℕ). l ++ joined) (sym is))
    (stands (put ++ joined) left _ _ _ (c.in_ok-put_lines.ensures.written all are e))) c.flush.ensures.written
    c.flush.ensures.empty
