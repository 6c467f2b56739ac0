-- One line more is put for each reply.
use Rattle.std.proofs.Common.{◌≡◌, ◌∙◌, ℕ, ◌++◌, ◌∷◌, [], List, ap, sym, rules, append_assoc, append-nil}
use Rattle.std.proofs.KnownBytes.{Appends-nil}
use Rattle.std.specs.List.{flat_map}
use Rattle.ws_frame.specs.Watching.{inner_of}
use Rattle.ws_suite.specs.declared.evidence.InTurn.{InTurn}
use Rattle.ws_suite.specs.declared.evidence.Reply.{Reply}
use Rattle.ws_suite.specs.Kept.{reply_in}
use Rattle.ws_rooms.proofs.Waiting.{stands, stands_behind, stops}
use Rattle.ws_frame.specs.declared.source.DataStyle.TheVariants.{Hex}
use Rattle.wst_commands.specs.Explaining.{reply_line}
use Rattle.wst_commands.proofs.PutBehind.{begun_on, one_text_more, texts_behind}
use Rattle.wst_commands.proofs.writing_explanation.put_replies.Goals as goal

pub loop-reply-init : goal.loop-reply-init
loop-reply-init g c = (
  c.requires,
  (
    [],
    sym c.iter-walk.ensures,
    ([], Appends-nil (g.W.Write.contents (inner_of c.args.writer.now)), append-nil c.args.room.now),
  ),
)

pub returns-in_err-put : goal.returns-in_err-put
returns-in_err-put g c =
    let (done, parts, first) = c.loop-reply.invariant.1 in
    let room = c.args.room.now in
    let all = c.args.replies.now in
    let text = reply_line Hex c.args.side in
    let x = reply_in c.in-Some.reply in
    let others = c.next.new.self in
    let left : c.loop-reply.walk ≡ x ∷ others = search rules in
    let same : c.as_slice.result.now ≡ text x = search rules in
    stops (room ++ flat_map text all) _ _ _ _ c.from_residual.result c.in_err-put.field-0.0 c.from_residual.ensures.1
    (begun_on (room ++ flat_map text done) c.loop-reply.room c.as_slice.result.now (flat_map text others)
    (room ++ flat_map text all) _ _ _ first
    (texts_behind text room all done others x (parts ∙ ap (λ (l : List (InTurn Reply)). done ++ l) left)
    ∙ ap (λ (l : List ℕ). (room ++ flat_map text done) ++ (l ++ flat_map text others)) (sym same)) c.in_err-put.ensures.0)
    c.in_err-put.ensures.1

pub loop-reply-preserved : goal.loop-reply-preserved
loop-reply-preserved g c =
    let (done, parts, first) = c.loop-reply.invariant.1 in
    let room = c.args.room.now in
    let text = reply_line Hex c.args.side in
    let x = reply_in c.in-Some.reply in
    let others = c.next.new.self in
    let left : c.loop-reply.walk ≡ x ∷ others = search rules in
    let same : c.as_slice.result.now ≡ text x = search rules in (
      c.in_ok-put.ensures.2,
      (
        done ++ x ∷ [],
        parts ∙ (ap (λ (l : List (InTurn Reply)). done ++ l) left ∙ sym (append_assoc done (x ∷ []) others)),
        stands_behind (room ++ flat_map text done) c.loop-reply.room c.as_slice.result.now
            (room ++ flat_map text (done ++ x ∷ [])) c.put.new.room _ _ _ first
            (one_text_more text room done x ∙ ap (λ (l : List ℕ). (room ++ flat_map text done) ++ l) (sym same))
            (stands (c.loop-reply.room ++ c.as_slice.result.now) c.put.new.room _ _ _ c.in_ok-put.ensures),
      ),
    )

pub returns : goal.returns
returns g c =
    let (done, parts, first) = c.loop-reply.invariant.1 in
    let room = c.args.room.now in
    let text = reply_line Hex c.args.side in
    let none : c.loop-reply.walk ≡ [] = search rules in
    let all : c.args.replies.now ≡ done = parts ∙ (ap (λ (l : List (InTurn Reply)). done ++ l) none ∙ append-nil done) in
    (first.0, first.1, c.loop-reply.invariant.0, ap (λ (l : List (InTurn Reply)). room ++ flat_map text l) all ∙ first.2)
