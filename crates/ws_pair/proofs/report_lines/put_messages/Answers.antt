-- One line more is put for each message.
use Rattle.std.proofs.Common.{◌≡◌, ◌∙◌, ◌++◌, ◌∷◌, [], List, ap, sym, rules, true, append_assoc, append-nil}
use Rattle.std.specs.List.{flat_map}
use Rattle.ws_frame.specs.Watching.{has_failed}
use Rattle.ws_session.specs.declared.message.Message.{Message}
use Rattle.ws_pair.specs.KeptMessages.{whole_message}
use Rattle.ws_pair.specs.ReportLines.{message_line}
use Rattle.ws_pair.proofs.Putting.{both_put, flat_all, flat_more, none_put, same_put, stopped_put}
use Rattle.ws_pair.proofs.report_lines.put_messages.Goals as goal

pub loop-message-init : goal.loop-message-init
loop-message-init g c = ([], sym c.iter-walk.ensures, none_put g.W.Write.contents c.args.room.now c.args.writer.now)

pub loop-message-preserved : goal.loop-message-preserved
loop-message-preserved g c =
    let (done, parts, put) = c.loop-message.invariant in
    let x = whole_message c.in-Some.message.kind c.in-Some.message.payload.now in
    let others = c.next.new.self in
    let left : c.loop-message.walk ≡ x ∷ others = search rules in (
      done ++ x ∷ [],
      parts ∙ (ap (λ (l : List Message). done ++ l) left ∙ sym (append_assoc done (x ∷ []) others)),
      same_put g.W.Write.contents _ _ _ _ _ _ (sym (flat_more (message_line c.args.side) done x))
          (both_put g.W.Write.contents _ _ _ _ _ _ _ _ put c.put_message.ensures),
    )

pub returns : goal.returns
returns g c =
    let (done, parts, put) = c.loop-message.invariant in
    let none : c.loop-message.walk ≡ [] = search rules in
    let all : done ≡ c.args.messages.now.items = sym (parts ∙ (ap (λ (l : List Message). done ++ l) none ∙ append-nil done)) in
    same_put g.W.Write.contents _ _ _ _ _ _ (ap (λ (l : List Message). flat_map (message_line c.args.side) l) all) put

pub returns-then-failed : goal.returns-then-failed
returns-then-failed g c =
    let (done, parts, put) = c.loop-message.invariant in
    let walk : List Message = c.loop-message.walk in
    let failed : has_failed c.loop-message.writer ≡ true = search rules in
    same_put g.W.Write.contents _ _ _ _ _ _
    (flat_all (message_line c.args.side) done walk c.args.messages.now.items parts)
    (stopped_put g.W.Write.contents (flat_map (message_line c.args.side) done)
    (flat_map (message_line c.args.side) walk) _ _ _ _ failed put)
