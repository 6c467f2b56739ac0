-- What the session takes leaves the end as one to which so many more bytes came, with the message that they tell.
use Rattle.std.proofs.Common.{◌∙◌, ◌++◌, ℕ, List, ap, refl}
use Rattle.std.specs.Prelude.{option_to_list}
use Rattle.ws_session.specs.Events.{messages_in}
use Rattle.ws_session.specs.Lent.{event_if_any, taken_in}
use Rattle.ws_pair.proofs.Ends.{delivered_by}
use Rattle.ws_pair.proofs.endpoint.Endpoint.deliver_front.Goals as goal

pub returns-clause-delivered : goal.returns-clause-delivered
returns-clause-delivered c = λ role limits x xs is peers next going.
    delivered_by c.session_laws.ensures role limits xs peers x c.args.self.now is c.args.key c.args.piece.now next
    (taken_in c.in_ok-taken.taken c.take_into.new.room) c.in_ok-taken.ensures.used.1 _
    c.in_ok-taken.ensures.taken going refl
    (c.in_ok-keep_message.ensures
    ∙ ap (λ (l : List ℕ). c.args.self.now.delivered.items ++ messages_in (option_to_list (event_if_any c.in_ok-taken.taken.event l))) c.as_slice.ensures)
    refl c.has_key_bytes.ensures
