-- The places that are called by what was found have their round.
use Rattle.std.proofs.Common.{subst, take}
use Rattle.ws_loops.specs.Places.{StayOfKind}
use Rattle.ws_loops.proofs.InsideLemmas.{whole_marked}
use Rattle.ws_loops.proofs.LoopLemmas.{found_round}
use Rattle.ws_loops.proofs.inside.serve_found.Goals as goal

pub serve-requires-clause-whole : goal.serve-requires-clause-whole
serve-requires-clause-whole g c = whole_marked g.M.Machine.agrees g.M.Machine.wants c.args.inside.now
    c.mark_all.new.inside c.requires.whole c.mark_all.ensures.marked.0

pub returns-clause-round : goal.returns-clause-round
returns-clause-round g c = found_round g.M.Machine.agrees g.M.Machine.wants g.S.NonBlocking.did g.K.LineSink.heard
    (take c.args.count c.args.inside.now.found.items) c.args.now c.args.inside.now c.mark_all.new.inside
    c.serve.new.inside c.args.sink.now c.serve.new.sink c.requires.whole.standing.calls c.mark_all.ensures.marked
    c.in_ok-serve.ensures.served

pub returns-clause-kinds : goal.returns-clause-kinds
returns-clause-kinds g c = subst (λ l. StayOfKind l c.serve.new.inside.seats.places.items)
    c.mark_all.ensures.marked.0.places c.in_ok-serve.ensures.kinds

pub returns-in_err-serve-clause-kinds : goal.returns-in_err-serve-clause-kinds
returns-in_err-serve-clause-kinds g c = subst (λ l. StayOfKind l c.serve.new.inside.seats.places.items)
    c.mark_all.ensures.marked.0.places c.in_err-serve.ensures.kinds
