-- It is asked for, and what has come of it is put there.
use Rattle.std.proofs.Common.{◌∙◌, ap, arith, length, slice_set}
use Rattle.std.proofs.lemmas.Option.{slice_get_within}
use Rattle.ws_loops.proofs.PlaceLemmas.{length_set, set_twice}
use Rattle.ws_networks.specs.NetworkLoops.{outbound_by}
use Rattle.ws_networks.specs.declared.network_loop.Outbound.TheVariants.{Idle, Trying}
use Rattle.ws_networks.proofs.BoardLemmas.{sound_settled, trying_fits, trying_slotless}
use Rattle.ws_networks.proofs.network_loop.ask_at.Goals as goal

pub ask-dialled-requires-clause-within : goal.ask-dialled-requires-clause-within
ask-dialled-requires-clause-within g c =
    (trying_fits g.M.Machine.agrees g.M.Machine.wants g.N.Stream.NonBlocking.did c.args.board.now.all
    c.args.board.now.outbound.items c.args.at c.in-Trying.machine c.in-Trying.dial c.requires.whole
    c.in-Trying.ensures.taken).2

pub ask-dialled-requires-clause-fresh : goal.ask-dialled-requires-clause-fresh
ask-dialled-requires-clause-fresh g c =
    (trying_fits g.M.Machine.agrees g.M.Machine.wants g.N.Stream.NonBlocking.did c.args.board.now.all
    c.args.board.now.outbound.items c.args.at c.in-Trying.machine c.in-Trying.dial c.requires.whole
    c.in-Trying.ensures.taken).1

pub settle-requires-clause-able : goal.settle-requires-clause-able
settle-requires-clause-able g c =
    (trying_fits g.M.Machine.agrees g.M.Machine.wants g.N.Stream.NonBlocking.did c.args.board.now.all
    c.args.board.now.outbound.items c.args.at c.in-Trying.machine c.in-Trying.dial c.requires.whole
    c.in-Trying.ensures.taken).0

pub settle-requires-clause-slotless : goal.settle-requires-clause-slotless
settle-requires-clause-slotless g c = trying_slotless g.M.Machine.agrees g.M.Machine.wants g.N.Stream.NonBlocking.did
    c.args.board.now.all c.args.board.now.outbound.items c.args.at c.requires.whole c.requires.trying

pub settle-requires-clause-at : goal.settle-requires-clause-at
settle-requires-clause-at g c = omega (
  arith,
  slice_get_within c.args.board.now.outbound.items c.args.at (Trying c.in-Trying.machine c.in-Trying.dial)
      c.in-Trying.ensures.taken,
  ap (λ l. length l) c.in-Trying.ensures.idle,
  length_set c.args.board.now.outbound.items c.args.at Idle,
)

pub returns-clause-asked : goal.returns-clause-asked
returns-clause-asked g c = record {
  machine = c.in-Trying.machine;
  dial = c.in-Trying.dial;
  trying = c.in-Trying.ensures.taken;
  came = c.ask-dialled.result;
  dialled = c.ask-dialled.ensures.dialled;
  fresh = c.ask-dialled.ensures.fresh;
  places = c.settle.ensures.places;
  beside = c.settle.ensures.outbound
      ∙ (ap (λ l. slice_set l c.args.at (outbound_by c.in-Trying.machine c.ask-dialled.result)) c.in-Trying.ensures.idle
      ∙ set_twice c.args.board.now.outbound.items c.args.at Idle
      (outbound_by c.in-Trying.machine c.ask-dialled.result));
}

pub returns-clause-whole : goal.returns-clause-whole
returns-clause-whole g c =
    let old = c.args.board.now in
    let next = outbound_by c.in-Trying.machine c.ask-dialled.result in
    let fits = trying_fits g.M.Machine.agrees g.M.Machine.wants g.N.Stream.NonBlocking.did old.all old.outbound.items
    c.args.at c.in-Trying.machine c.in-Trying.dial c.requires.whole
    c.in-Trying.ensures.taken in
    sound_settled g.M.Machine.agrees g.M.Machine.wants g.N.Stream.NonBlocking.did old.all c.settle.new.board.all
    old.outbound.items c.settle.new.board.outbound.items c.args.at c.in-Trying.machine c.in-Trying.dial.tries.bounds
    c.args.now c.ask-dialled.result c.requires.whole.len (λ i p o other p_is o_is. c.requires.whole.each i p o p_is o_is)
    c.settle.ensures.places (c.settle.ensures.outbound
    ∙ (ap (λ l. slice_set l c.args.at next) c.in-Trying.ensures.idle
    ∙ set_twice old.outbound.items c.args.at Idle next)) fits.0 c.ask-dialled.ensures.fresh c.ask-dialled.ensures.within
