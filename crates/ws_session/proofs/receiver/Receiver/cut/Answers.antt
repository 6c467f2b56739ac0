-- A receiving side that cuts off what a failed call put in is sound again, with the same frame under way.
use Rattle.std.proofs.Common.{◌≡◌, ◌∙◌, ap}
use Rattle.ws_session.specs.InnerReceiving.{first_bytes, came_of}
use Rattle.ws_session.specs.InnerReceiver.{ReceiverValue, IsReceiving}
use Rattle.ws_session.proofs.Exact.{cut_partial, cut_receives}
use Rattle.ws_session.proofs.receiver.Receiver.cut.Goals as goal

pub invariant_of-self : goal.invariant_of-self
invariant_of-self c =
    let i = c.self.inside in
    let e = c.cut.ensures in
    let first : c.cut.new.self.payload ≡ first_bytes i.assembly (came_of i.frame) = e.payload ∙ ap (λ n. first_bytes i.assembly n) c.came-came.ensures in
    cut_receives i.role i.limits i.assembly c.cut.new.self e.opened e.text e.joined i.frame c.self.invariant first

pub returns-clause-partial : goal.returns-clause-partial
returns-clause-partial c =
    let i = c.self.inside in
    let e = c.cut.ensures in
    let first : c.cut.new.self.payload ≡ first_bytes i.assembly (came_of i.frame) = e.payload ∙ ap (λ n. first_bytes i.assembly n) c.came-came.ensures in
    cut_partial i.role i.limits i.assembly c.cut.new.self e.opened e.text e.joined i.frame c.self.invariant.under_way first ∙ ap (λ (v : ReceiverValue). v.partial_frame) c.self.view_is

pub returns-clause-sound : goal.returns-clause-sound
returns-clause-sound c =
    let i = c.self.inside in
    let e = c.cut.ensures in
    let first : c.cut.new.self.payload ≡ first_bytes i.assembly (came_of i.frame) = e.payload ∙ ap (λ n. first_bytes i.assembly n) c.came-came.ensures in
    let r : IsReceiving i.role i.limits c.cut.new.self i.frame = cut_receives i.role i.limits i.assembly c.cut.new.self e.opened e.text e.joined i.frame c.self.invariant first in
    r.sound
