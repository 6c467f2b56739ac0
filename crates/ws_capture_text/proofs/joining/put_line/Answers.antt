-- What stands before the line is put, and then its word, or the line and its LF.
use Rattle.std.proofs.Common.{◌++◌, ◌∷◌, []}
use Rattle.ws_capture_text.specs.InnerJoining.{put_of}
use Rattle.ws_capture_text.proofs.LineAfterLine.{put_plain, put_word}
use Rattle.ws_rooms.proofs.Waiting.{begun_behind, begun_more, both_behind, stands, stops}
use Rattle.ws_capture_text.proofs.joining.put_line.Goals as goal

pub returns-in_err-put-in-Some-clause-written : goal.returns-in_err-put-in-Some-clause-written
returns-in_err-put-in-Some-clause-written g c =
    let old = c.args.room.now in
    let line = c.args.line.now in
    let before = c.text_before.result.now in
    let all = put_word old line before c.in-Some.word.now c.args.last c.in-Some.mark c.in-Some.ensures
    c.text_before.ensures in
    stops (old ++ put_of c.args.last line) _ _ _ _ c.from_residual.result c.in_err-put-in-Some.field-0.0
    c.from_residual.ensures.1
    (begun_more (old ++ before) c.in-Some.word.now (old ++ put_of c.args.last line) _ _ all
    c.in_err-put-in-Some.ensures.0) c.in_err-put-in-Some.ensures.1

pub returns-in_err-put-in-Some-2-clause-written : goal.returns-in_err-put-in-Some-2-clause-written
returns-in_err-put-in-Some-2-clause-written g c =
    let old = c.args.room.now in
    let line = c.args.line.now in
    let before = c.text_before.result.now in
    let all = put_word old line before c.in-Some.word.now c.args.last c.in-Some.mark c.in-Some.ensures
    c.text_before.ensures in
    stops (old ++ put_of c.args.last line) _ _ _ _ c.from_residual-in_err-put-in-Some-2.result
    c.in_err-put-in-Some-2.field-0.0 c.from_residual-in_err-put-in-Some-2.ensures.1
    (begun_behind (old ++ before) c.put.new.room c.in-Some.word.now (old ++ put_of c.args.last line) _ _ _
    (stands (old ++ before) c.put.new.room _ _ _ c.in_ok-put-in-Some.ensures) all c.in_err-put-in-Some-2.ensures.0)
    c.in_err-put-in-Some-2.ensures.1

pub returns-in_ok-put-in-Some-2-clause-written : goal.returns-in_ok-put-in-Some-2-clause-written
returns-in_ok-put-in-Some-2-clause-written g c =
    let old = c.args.room.now in
    let line = c.args.line.now in
    let before = c.text_before.result.now in
    let all = put_word old line before c.in-Some.word.now c.args.last c.in-Some.mark c.in-Some.ensures
    c.text_before.ensures in
    both_behind (old ++ before) c.put.new.room c.in-Some.word.now (old ++ put_of c.args.last line)
    c.put-in-Some.new.room _ _ _ _ (stands (old ++ before) c.put.new.room _ _ _ c.in_ok-put-in-Some.ensures) all
    c.in_ok-put-in-Some-2.ensures

pub returns-in_err-put-in-None-clause-written : goal.returns-in_err-put-in-None-clause-written
returns-in_err-put-in-None-clause-written g c =
    let old = c.args.room.now in
    let line = c.args.line.now in
    let before = c.text_before-in-None.result.now in
    let all = put_plain old line before c.args.last c.in-None.ensures c.text_before-in-None.ensures in
    stops (old ++ put_of c.args.last line) _ _ _ _ c.from_residual-in_err-put-in-None.result
    c.in_err-put-in-None.field-0.0 c.from_residual-in_err-put-in-None.ensures.1
    (begun_more (old ++ before) (line ++ 10 ∷ []) (old ++ put_of c.args.last line) _ _ all
    c.in_err-put-in-None.ensures.0) c.in_err-put-in-None.ensures.1

pub returns-in_err-put_ended-in-None-clause-written : goal.returns-in_err-put_ended-in-None-clause-written
returns-in_err-put_ended-in-None-clause-written g c =
    let old = c.args.room.now in
    let line = c.args.line.now in
    let before = c.text_before-in-None.result.now in
    let all = put_plain old line before c.args.last c.in-None.ensures c.text_before-in-None.ensures in
    stops (old ++ put_of c.args.last line) _ _ _ _ c.from_residual-in_err-put_ended-in-None.result
    c.in_err-put_ended-in-None.field-0.0 c.from_residual-in_err-put_ended-in-None.ensures.1
    (begun_behind (old ++ before) c.put-in-None.new.room (line ++ 10 ∷ []) (old ++ put_of c.args.last line) _ _ _
    (stands (old ++ before) c.put-in-None.new.room _ _ _ c.in_ok-put-in-None.ensures) all
    c.in_err-put_ended-in-None.ensures.0) c.in_err-put_ended-in-None.ensures.1

pub returns-in_ok-put_ended-in-None-clause-written : goal.returns-in_ok-put_ended-in-None-clause-written
returns-in_ok-put_ended-in-None-clause-written g c =
    let old = c.args.room.now in
    let line = c.args.line.now in
    let before = c.text_before-in-None.result.now in
    let all = put_plain old line before c.args.last c.in-None.ensures c.text_before-in-None.ensures in
    both_behind (old ++ before) c.put-in-None.new.room (line ++ 10 ∷ []) (old ++ put_of c.args.last line)
    c.put_ended.new.room _ _ _ _ (stands (old ++ before) c.put-in-None.new.room _ _ _ c.in_ok-put-in-None.ensures) all
    c.in_ok-put_ended-in-None.ensures
