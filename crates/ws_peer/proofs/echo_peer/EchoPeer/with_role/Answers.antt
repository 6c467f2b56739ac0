-- A new echo as a peer has had a talk in which nothing was said, and its session has taken nothing.
use Rattle.std.proofs.Common.{◌∙◌, false, refl}
use Rattle.ws_peer.specs.EchoTalks.{EchoPeerValue}
use Rattle.ws_peer.specs.EchoRuns.{echo_end}
use Rattle.ws_peer.proofs.EchoTalkLemmas.{had_nothing, taken_nothing}
use Rattle.ws_peer.proofs.echo_peer.EchoPeer.with_role.Goals as goal

pub invariant_of-result : goal.invariant_of-result
invariant_of-result c = taken_nothing c.new.result c.new.ensures.exchanged

pub returns-clause-new : goal.returns-clause-new
returns-clause-new c =
    let peer : EchoPeerValue = record { session = c.new.result; key = c.args.key; is_spent = false } in
    had_nothing c.echo_laws.ensures peer (echo_end c.args.role c.args.key) refl c.new.ensures.role (c.new.ensures.limits ∙ c.largest.ensures) c.new.ensures.exchanged
