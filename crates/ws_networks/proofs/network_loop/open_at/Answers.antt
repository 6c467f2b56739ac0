-- A connection is begun, and what has come of it is put there.
use Rattle.std.proofs.lemmas.Option.{slice_get_within}
use Rattle.ws_networks.specs.NetworkLoops.{outbound_by}
use Rattle.ws_networks.specs.NetworkLoops.Standing.{Free}
use Rattle.ws_networks.proofs.BoardLemmas.{empty_slotless, free_place, sound_settled, stands_so, turns_opened}
use Rattle.ws_networks.proofs.BoardLemmas.{within_beside}
use Rattle.ws_networks.proofs.DialLemmas.{untried_so}
use Rattle.ws_networks.proofs.network_loop.open_at.Goals as goal

pub settle-requires-clause-slotless : goal.settle-requires-clause-slotless
settle-requires-clause-slotless g c = empty_slotless
    c.args.board.now.all.places c.args.at
    (free_place g.M.Machine.agrees g.M.Machine.wants g.N.Stream.NonBlocking.did c.args.board.now.all
    c.args.board.now.outbound.items c.args.at c.requires.whole c.requires.free)

pub settle-requires-clause-at : goal.settle-requires-clause-at
settle-requires-clause-at g c = within_beside g.M.Machine.agrees g.M.Machine.wants g.N.Stream.NonBlocking.did
    c.args.board.now.all c.args.board.now.outbound.items c.args.at c.requires.whole
    (slice_get_within _ c.args.at Free c.requires.free)

pub returns-clause-opened : goal.returns-clause-opened
returns-clause-opened g c = record {
  came = c.try_next-dialled.result;
  dialled = untried_so g.N.Network.did c.args.at c.args.now c.new-tries.result c.args.attempt.addresses.items c.args.attempt.bounds
      c.try_next-dialled.result c.args.network.now c.try_next-dialled.new.network c.new-tries.ensures.addresses
      c.new-tries.ensures.bounds c.new-tries.ensures.missed c.new-tries.ensures.first
      c.try_next-dialled.ensures.dialled;
  fresh = c.try_next-dialled.ensures.fresh;
  stands = stands_so g.M.Machine.agrees g.M.Machine.wants g.N.Stream.NonBlocking.did c.args.board.now.all.places
      c.settle.new.board.all.places c.args.board.now.outbound.items c.settle.new.board.outbound.items c.args.at
      c.args.attempt.machine c.args.attempt.bounds c.args.now c.try_next-dialled.result c.settle.ensures.places
      c.settle.ensures.outbound;
}

pub returns-clause-turns : goal.returns-clause-turns
returns-clause-turns g c = turns_opened c.args.board.now.all.tickets c.settle.new.board.all.tickets
    c.args.board.now.outbound.items c.settle.new.board.outbound.items c.args.at
    (outbound_by c.args.attempt.machine c.try_next-dialled.result)
    (c.settle.ensures.unnumbered (free_place g.M.Machine.agrees g.M.Machine.wants g.N.Stream.NonBlocking.did
    c.args.board.now.all c.args.board.now.outbound.items c.args.at c.requires.whole c.requires.free))
    c.settle.ensures.outbound c.settle.ensures.turns

pub returns-clause-whole : goal.returns-clause-whole
returns-clause-whole g c = sound_settled g.M.Machine.agrees g.M.Machine.wants g.N.Stream.NonBlocking.did
    c.args.board.now.all c.settle.new.board.all c.args.board.now.outbound.items c.settle.new.board.outbound.items
    c.args.at c.args.attempt.machine c.args.attempt.bounds c.args.now c.try_next-dialled.result c.requires.whole.len
    (λ i p o other p_is o_is. c.requires.whole.each i p o p_is o_is) c.settle.ensures.places c.settle.ensures.outbound
    c.requires.able c.try_next-dialled.ensures.fresh c.try_next-dialled.ensures.within
