-- A send is the next of the frames, or it is refused and nothing changes.
use Rattle.std.proofs.Common.{List, ℕ, subst}
use Rattle.std.specs.Prelude.{OnOk, IfErr}
use Rattle.ws_session.specs.Sends.{HasSent, HasTextReason, IsRefusedBy, Send}
use Rattle.ws_sends.specs.KeyedSends.{send_in}
use Rattle.ws_peer.proofs.AppSends.{sends_told}
use Rattle.ws_peer.proofs.app_peer.send_unless_refused.Goals as goal

pub returns-clause-sent : goal.returns-clause-sent
returns-clause-sent c =
    let what = c.args.send.now in
    let old = c.args.session.now in
    let new = c.send-sent.new.self in
    let before = c.args.out.now.items in
    let after = c.send-sent.new.out.items in
    let result = c.send-sent.result in
    let e = c.send-sent.ensures in
    sends_told c.send_laws.ensures result old new what before after c.agrees.ensures.exchange
    (subst (λ (k : List ℕ). OnOk result (HasSent old new (send_in what) k before after)) c.key.ensures (subst (λ (s : Send). OnOk result (HasSent old new s c.key.result before after)) c.outgoing.ensures e.sent))
    (subst (λ (s : Send). IfErr result (IsRefusedBy old s)) c.outgoing.ensures e.refused) e.kept (subst (λ (s : Send). OnOk result (HasTextReason s)) c.outgoing.ensures e.text) c.in_ok-done_or_refused.ensures.told
