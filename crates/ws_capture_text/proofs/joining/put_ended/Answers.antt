-- The LF is put behind the line.
use Rattle.std.proofs.Common.{◌≡◌, ◌∙◌, ◌∷◌, [], ◌++◌, List, ℕ, ap, append_assoc, rules, sym}
use Rattle.ws_rooms.proofs.Waiting.{begun_more, some_behind, stands, stops}
use Rattle.ws_capture_text.proofs.joining.put_ended.Goals as goal

pub returns-in_err-put : goal.returns-in_err-put
returns-in_err-put g c =
    let old = c.args.room.now in
    let line = c.args.line.now in
    stops (old ++ (line ++ 10 ∷ [])) _ _ _ _ c.from_residual.result c.in_err-put.field-0.0 c.from_residual.ensures.1
    (begun_more (old ++ line) (10 ∷ []) (old ++ (line ++ 10 ∷ [])) _ _ (sym (append_assoc old line (10 ∷ [])))
    c.in_err-put.ensures.0) c.in_err-put.ensures.1

pub returns : goal.returns
returns g c =
    let old = c.args.room.now in
    let line = c.args.line.now in
    let feed = c.as_slice.result.now in
    let is : feed ≡ 10 ∷ [] = search rules in
    some_behind (old ++ line) c.put.new.room feed (old ++ (line ++ 10 ∷ [])) _ _ _ _ _ c.put-2.result
    (stands (old ++ line) c.put.new.room _ _ _ c.in_ok-put.ensures)
    (sym (append_assoc old line (10 ∷ [])) ∙ ap (λ (l : List ℕ). (old ++ line) ++ l) (sym is)) c.put-2.ensures
