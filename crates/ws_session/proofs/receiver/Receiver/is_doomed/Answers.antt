-- A frame whose header is whole is doomed exactly where no right frame begins with it, be it a data or a control frame.
use Rattle.std.proofs.Common.{◌∙◌, List, ℕ, not, sym, ap, subst}
use Rattle.ws_session.specs.declared.receiver.under_way.UnderWay.{UnderWay}
use Rattle.ws_session.specs.declared.receiver.under_way.UnderWay.TheVariants.{Data, Control}
use Rattle.ws_session.specs.InnerReceiving.{IsUnderWay, partial_of}
use Rattle.ws_session.specs.InnerReceiver.{receiver_of}
use Rattle.ws_session.proofs.RightFronts.{control_short, some_header, doomed_unless, doomed_shown}
use Rattle.ws_session.proofs.receiver.Receiver.is_doomed.Goals as goal

pub control_can_be_right-requires-clause-short : goal.control_can_be_right-requires-clause-short
control_can_be_right-requires-clause-short c =
    let i = c.self.inside in
    let u = subst (λ (f : UnderWay). IsUnderWay i.role i.limits i.assembly f) c.in-Control.is c.self.invariant.under_way
    in
    control_short i.role i.limits i.assembly.opened c.in-Control.header u.kept.1 u.kept.2

pub returns-in-Data : goal.returns-in-Data
returns-in-Data c =
    let i = c.self.inside in
    let frame = Data c.in-Data.header c.in-Data.came in
    let u = subst (λ (f : UnderWay). IsUnderWay i.role i.limits i.assembly f) c.in-Data.is c.self.invariant.under_way in
    let view = sym (ap (λ (f : UnderWay). receiver_of i.role i.limits i.assembly f) c.in-Data.is) ∙ c.self.view_is in
    doomed_shown (receiver_of i.role i.limits i.assembly frame) c.args.self.now (not c.data_can_be_right.result) view
    (doomed_unless i.role i.limits i.assembly.opened (partial_of i.assembly frame) c.data_can_be_right.result
    (some_header c.in-Data.header _) (c.data_can_be_right.ensures i.role i.limits u))

pub returns-in-Control : goal.returns-in-Control
returns-in-Control c =
    let i = c.self.inside in
    let frame = Control c.in-Control.header c.as_slice-in-Control.result.now in
    let is = c.in-Control.is ∙ ap (λ (p : List ℕ). Control c.in-Control.header p)
    (sym c.as_slice-in-Control.ensures.bytes) in
    let u = subst (λ (f : UnderWay). IsUnderWay i.role i.limits i.assembly f) is c.self.invariant.under_way in
    let view = sym (ap (λ (f : UnderWay). receiver_of i.role i.limits i.assembly f) is) ∙ c.self.view_is in
    doomed_shown (receiver_of i.role i.limits i.assembly frame) c.args.self.now (not c.control_can_be_right.result) view
    (doomed_unless i.role i.limits i.assembly.opened (partial_of i.assembly frame) c.control_can_be_right.result
    (some_header c.in-Control.header _) (c.control_can_be_right.ensures i.role i.limits i.assembly u))
