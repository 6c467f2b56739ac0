-- Send after send, those that aren't refused are sent in their order.
use Rattle.std.proofs.Common.{◌≡◌, ◌∙◌, ◌+◌, ◌∷◌, ◌++◌, List, [], take, ap, subst, sym}
use Rattle.std.proofs.lemmas.List.{take_more}
use Rattle.ws_session.specs.Exchange.{SessionValue}
use Rattle.ws_sends.specs.declared.keyed_send.KeyedSend.{KeyedSend}
use Rattle.ws_peer.specs.Apps.{SendsOwn}
use Rattle.ws_peer.specs.EchoTalks.{HasTakenSomething}
use Rattle.ws_peer.proofs.AppSends.{sends_both, sends_none, still_taken}
use Rattle.ws_peer.proofs.app_peer.send_each.Goals as goal

pub loop-send-init : goal.loop-send-init
loop-send-init c = sends_none c.args.session.now c.args.out.now.items

pub returns-in_err-send_unless_refused-clause-some : goal.returns-in_err-send_unless_refused-clause-some
returns-in_err-send_unless_refused-clause-some c some =
    let i = c.loop-send in
    subst (λ (s : SessionValue). HasTakenSomething s) (sym c.in_err-send_unless_refused.ensures.kept.0)
    (still_taken (take i.send-index c.args.sends.now) c.args.session.now i.session c.args.out.now.items i.out.items i.invariant some)

pub loop-send-preserved : goal.loop-send-preserved
loop-send-preserved c =
    let i = c.loop-send in
    let old = c.args.session.now in
    let new = c.send_unless_refused.new.session in
    let before = c.args.out.now.items in
    let after = c.send_unless_refused.new.out.items in
    let so_far : List KeyedSend = take i.send-index c.args.sends.now in
    let what : KeyedSend = c.send-item.result in
    let more : so_far ++ what ∷ [] ≡ take (i.send-index + 1) c.args.sends.now =
    ap (λ (x : KeyedSend). so_far ++ x ∷ []) c.send-item.is ∙ sym (take_more c.args.sends.now i.send-index what c.loop-send-test.true) in
    subst (λ (l : List KeyedSend). SendsOwn l old new before after) more
    (sends_both so_far (what ∷ []) old i.session new before i.out.items after i.invariant c.in_ok-send_unless_refused.ensures.sent)

pub returns-clause-some : goal.returns-clause-some
returns-clause-some c some =
    let i = c.loop-send in
    still_taken (take i.send-index c.args.sends.now) c.args.session.now i.session c.args.out.now.items i.out.items i.invariant some
