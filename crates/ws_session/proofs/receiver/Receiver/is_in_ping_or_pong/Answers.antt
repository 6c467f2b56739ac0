-- The header of the frame under way begins with the byte that tells its opcode.
use Rattle.std.proofs.Common.{◌≡◌, ◌∙◌, ◌%◌, ℕ, false, sym, ap, subst}
use Rattle.ws_wire.specs.Header.{first_byte}
use Rattle.ws_session.specs.declared.receiver.under_way.UnderWay.{UnderWay}
use Rattle.ws_session.specs.InnerReceiving.{IsUnderWay}
use Rattle.ws_session.specs.InnerReceiver.{ReceiverValue, receiver_of}
use Rattle.ws_session.specs.PingsAndPongs.{begins_ping_or_pong, means_ping_or_pong}
use Rattle.ws_session.proofs.PingsAndPongs.{data_is_neither, opcode_in_first}
use Rattle.ws_session.proofs.receiver.Receiver.is_in_ping_or_pong.Goals as goal

pub returns-in-Data : goal.returns-in-Data
returns-in-Data c =
    let i = c.self.inside in
    let u = subst (λ (f : UnderWay). IsUnderWay i.role i.limits i.assembly f) c.in-Data.is c.self.invariant.under_way in
    let view = sym (ap (λ (f : UnderWay). receiver_of i.role i.limits i.assembly f) c.in-Data.is) ∙ c.self.view_is in
    let neither : means_ping_or_pong (first_byte c.in-Data.header % 16) ≡ false =
    ap (λ (n : ℕ). means_ping_or_pong n) (opcode_in_first c.in-Data.header u.kept.0.opcode) ∙ data_is_neither _ u.kept.2 in
    sym neither ∙ ap (λ (v : ReceiverValue). begins_ping_or_pong v.partial_frame) view

pub returns-in-Control : goal.returns-in-Control
returns-in-Control c =
    let i = c.self.inside in
    let u = subst (λ (f : UnderWay). IsUnderWay i.role i.limits i.assembly f) c.in-Control.is c.self.invariant.under_way
    in
    let view = sym (ap (λ (f : UnderWay). receiver_of i.role i.limits i.assembly f) c.in-Control.is) ∙ c.self.view_is in
    c.is_ping_or_pong.ensures
    ∙ ap (λ (n : ℕ). means_ping_or_pong n) (sym (opcode_in_first c.in-Control.header u.kept.0.opcode))
    ∙ ap (λ (v : ReceiverValue). begins_ping_or_pong v.partial_frame) view
