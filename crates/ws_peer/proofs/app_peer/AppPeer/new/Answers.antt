-- A new application has had a talk in which nothing was said, and its session has taken nothing.
use Rattle.std.proofs.Common.{◌∙◌, false, refl, arith}
use Rattle.ws_peer.specs.Apps.{AppPeerValue, app_end, planned_in}
use Rattle.ws_peer.proofs.AppTalkLemmas.{said_nothing}
use Rattle.ws_peer.proofs.EchoTalkLemmas.{taken_nothing}
use Rattle.ws_peer.proofs.app_peer.AppPeer.new.Goals as goal

pub invariant_of-result : goal.invariant_of-result
invariant_of-result c = (omega arith, taken_nothing c.new.result c.new.ensures.exchanged)

pub returns-clause-new : goal.returns-clause-new
returns-clause-new c =
    let plan = planned_in c.args.plan.items in
    let peer : AppPeerValue = record { session = c.new.result; key = c.args.key; plan = plan; done = 0; fed = c.new-2.result.items; taken = 0; is_spent = false } in
    said_nothing peer (app_end c.args.role c.args.key plan) refl refl c.new.ensures.role (c.new.ensures.limits ∙ c.largest.ensures) c.new.ensures.exchanged c.new-2.ensures.items refl refl
