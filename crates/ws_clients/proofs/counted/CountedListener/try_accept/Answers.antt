-- What the listener did is told, and nothing of it where no more may be taken.
use Rattle.std.proofs.Common.{◌∙◌, Some, arith, ap, sym, subst}
use Rattle.ws_clients.specs.Counting.{HasCounted}
use Rattle.ws_clients.proofs.CountLemmas.{closed_more, counted_more, uncounted_more}
use Rattle.ws_clients.proofs.counted.CountedListener.try_accept.Goals as goal

pub returns-then-left-eq0-clause-did : goal.returns-then-left-eq0-clause-did
returns-then-left-eq0-clause-did g c = λ start deeds h. closed_more g.L.Listener.did start c.args.self.now deeds h
    (sym (ap (λ v. v.left) c.self.view_is) ∙ (c.in-Some.is ∙ ap (λ n. Some n) c.if-left-eq0.true))

pub returns-else-left-eq0-clause-did : goal.returns-else-left-eq0-clause-did
returns-else-left-eq0-clause-did g c = λ start deeds h. counted_more g.L.Listener.did start
    (record { listener = c.self.inside.listener; left = c.self.inside.left }) deeds
    (subst (λ v. HasCounted g.L.Listener.did start v deeds) (sym c.self.view_is) h)
    (record { listener = c.try_accept-got.new.self; left = c.left_behind-self-inside.result })
    c.in-Some.left c.args.at c.try_accept-got.result c.in-Some.is (omega (arith, c.if-left-eq0.false)) c.try_accept-got.ensures.did
    c.left_behind-self-inside.ensures

pub returns-in-None-clause-did : goal.returns-in-None-clause-did
returns-in-None-clause-did g c = λ start deeds h. uncounted_more g.L.Listener.did start
    (record { listener = c.self.inside.listener; left = c.self.inside.left }) deeds
    (subst (λ v. HasCounted g.L.Listener.did start v deeds) (sym c.self.view_is) h)
    (record { listener = c.try_accept.new.self; left = c.self.inside.left })
    c.args.at c.try_accept.result c.in-None.is c.in-None.is c.try_accept.ensures.did
