-- A piece fed to an echo is one more entry of its talk, with its replies; where memory fails, its session stays sound.
use Rattle.std.proofs.Common.{refl, subst, sym}
use Rattle.ws_peer.specs.EchoTalks.{EchoPeerValue, MayHaveHad}
use Rattle.ws_peer.proofs.EchoTalkLemmas.{says_fed, taken_more}
use Rattle.ws_peer.proofs.echo_peer.EchoPeerPeer.feed.Goals as goal

pub invariant_of-self : goal.invariant_of-self
invariant_of-self c = taken_more c.self.inside.echo c.pass.new.self c.args.piece.now _ c.args.out.now.items c.pass.new.out.items _ _ c.self.invariant c.in-Ok.ensures.taken.1

pub invariant_of-self-in-Err : goal.invariant_of-self-in-Err
invariant_of-self-in-Err c = taken_more c.self.inside.echo c.pass.new.self _ _ c.args.out.now.items c.pass.new.out.items _ _ c.self.invariant c.in-Err.ensures.taken.1

pub returns-in-Ok-clause-said : goal.returns-in-Ok-clause-said
returns-in-Ok-clause-said c =
    let inside = c.self.inside in
    let old : EchoPeerValue = record { session = inside.echo; key = inside.key; is_spent = inside.is_spent } in
    let new : EchoPeerValue = record { session = c.pass.new.self; key = inside.key; is_spent = inside.is_spent } in
    let says = says_fed c.echo_laws.ensures old new c.args.piece.now c.args.out.now.items c.pass.new.out.items _ _ _ c.self.invariant refl c.in-Ok.ensures.taken.1 c.going_after-going.ensures in
    record { appended = says.appended; grown = says.grown; leads = λ end talk had. says.leads end talk (subst (λ (v : EchoPeerValue). MayHaveHad v end talk) (sym c.self.view_is) had) }
