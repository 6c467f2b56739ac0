-- What is held there is handed out, and nothing is held there then.
use Rattle.std.proofs.Common.{Some, arith}
use Rattle.std.proofs.lemmas.Option.{slice_get_within}
use Rattle.ws_loops.proofs.PlaceLemmas.{read_place}
use Rattle.ws_clients.proofs.ClientLemmas.{none_so, taken_so}
use Rattle.ws_clients.proofs.clients.taken_of.Goals as goal

pub returns-then-at-len-clause-taken : goal.returns-then-at-len-clause-taken
returns-then-at-len-clause-taken g c = taken_so c.args.at c.args.held.now.items c.replace.result c.replace.new.dest
    (read_place c.args.held.now.items c.args.at c.index_mut.result.now c.replace.result
    (omega (arith, c.if-at-len.true, c.len.ensures)) c.index_mut.ensures.value c.replace.ensures.value)
    c.replace.ensures.after

pub returns-then-at-len-clause-none : goal.returns-then-at-len-clause-none
returns-then-at-len-clause-none g c = none_so c.args.at c.args.held.now.items c.replace.result
    (read_place c.args.held.now.items c.args.at c.index_mut.result.now c.replace.result
    (omega (arith, c.if-at-len.true, c.len.ensures)) c.index_mut.ensures.value c.replace.ensures.value)

pub returns-else-at-len-clause-none : goal.returns-else-at-len-clause-none
returns-else-at-len-clause-none g c = λ h is. absurd
    (omega (arith, slice_get_within c.args.held.now.items c.args.at (Some h) is, c.if-at-len.false, c.len.ensures))
