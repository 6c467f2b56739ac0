-- Behind a ping the receiving side is sound: its open message is as it was, and no frame has begun.
use Rattle.std.proofs.Common.{sym, subst}
use Rattle.ws_session.specs.declared.receiver.under_way.UnderWay.{UnderWay}
use Rattle.ws_session.specs.InnerAssembly.{HasReadOpen}
use Rattle.ws_session.specs.InnerReceiver.{ReceiverValue, IsReceiving}
use Rattle.ws_session.proofs.Kept.{not_begun}
use Rattle.ws_session.proofs.receiver.Receiver.on_ping.Goals as goal

pub invariant_of-self : goal.invariant_of-self
invariant_of-self c =
    let i = c.self.inside in
    let sound = c.self.invariant.sound in
    let reads : HasReadOpen i.assembly.opened i.assembly.text = subst (λ (v : ReceiverValue). HasReadOpen v.opened v.text) (sym c.self.view_is) c.requires.read in
    subst (λ (f : UnderWay). IsReceiving i.role i.limits i.assembly f) (sym c.end.ensures) (not_begun i.role i.limits i.assembly c.self.invariant.under_way.joined reads sound.limit sound.size sound.room)
